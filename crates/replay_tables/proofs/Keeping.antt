-- Laws of what an edit that keeps a table comes to. Assumes nothing.
use Rattle.lists.proofs.Kit.{◌≡◌, refl, ◌∙◌, List, [], ◌∷◌, ◌++◌, ℕ, eq-eqb, ne_eqb}
use Rattle.call_edits.specs.Edits.{position_at}
use Rattle.replay_rows.specs.declared.Head.{Head}
use Rattle.replay_verdicts.specs.declared.Verdict.{Verdict}
use Rattle.replay_verdicts.specs.Answers.{compared}
use Rattle.replay_tables.specs.Edits.{from, to, put, caret_lent, sizes_lent, Keeps, kept_into}

-- the operation
module _ (k : Head) (c : List ℕ) where
  pub to_insert : k.op ≡ 1 → to k ≡ from k
  unfolding to
  to_insert e = rw (eq-eqb k.op 1 e)

  pub put_insert : k.op ≡ 1 → put k c ≡ c
  unfolding put
  put_insert e = rw (eq-eqb k.op 1 e)

  pub to_delete : (k.op ≡ 1 → ⊥) → to k ≡ position_at k.c k.d
  unfolding to
  to_delete n = rw (ne_eqb k.op 1 n)

  pub put_delete : (k.op ≡ 1 → ⊥) → put k c ≡ []
  unfolding put
  put_delete n = rw (ne_eqb k.op 1 n)

-- what is compared is what the definitions give
pub kept_compared : (k : Head) (c : List ℕ) (content : ℕ) (buf fold table stored : List ℕ) {r : ℕ} {buf' fold' table' caret' sizes' : List ℕ} {v : Verdict} →
    Keeps k c buf fold table (caret_lent k) (sizes_lent k content) r buf' fold' table' caret' sizes' →
    v ≡ compared (r ∷ ((((caret' ++ sizes') ++ buf') ++ fold') ++ table')) stored → v ≡ compared (kept_into k c content buf fold table) stored
unfolding kept_into
kept_compared k c content buf fold table stored h e =
    e ∙ rw (h.caret_left.numbered, h.caret_left.out_left, h.sizes_left.out_left, h.text_left, h.folds_left, h.starts_left) refl
