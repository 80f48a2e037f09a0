-- White space around a part: it is all before and behind what the part is trimmed to, and a value that is none is sought past it. Assumes nothing.
use Rattle.lists.proofs.Kit.{◌≡◌, refl, ap, ◌∙◌, List, [], ◌∷◌, ◌++◌, Bool, true, false, cond, not, ◌&&◌, ℕ, length, drop}
use Rattle.lists.proofs.Both.{both}
use Rattle.chars.specs.White.{is_white}
use Rattle.list_parts.specs.Parts.{trim_start, keep_last, trim_end, trim}
use Rattle.list_signs.specs.Signs.{before, behind}

-- white space alone, and none at all
unfoldable pub all_white : List ℕ → Bool
all_white [] = true
all_white (x ∷ w) = is_white x && all_white w

unfoldable pub no_white : List ℕ → Bool
no_white [] = true
no_white (x ∷ p) = not (is_white x) && no_white p

pub before_white : (p : List ℕ) → all_white (before p) ≡ true
unfolding before all_white
before_white [] = refl
before_white (x ∷ p) = go (is_white x) refl (before_white p)
  where
    go : (b : Bool) → is_white x ≡ b → all_white (before p) ≡ true → all_white (cond b (x ∷ before p) []) ≡ true
    go true e h = rw (e, h)
    go false e h = refl

pub split_start : (p : List ℕ) → before p ++ trim_start p ≡ p
unfolding before trim_start
split_start [] = refl
split_start (x ∷ p) = go (is_white x) (split_start p)
  where
    go : (b : Bool) → before p ++ trim_start p ≡ p → cond b (x ∷ before p) [] ++ cond b (trim_start p) (x ∷ p) ≡ x ∷ p
    go true h = ap (λ (q : List ℕ). x ∷ q) h
    go false h = refl

-- what trimming leaves is a beginning, and what it takes away white space
record End (q : List ℕ) : Type 0 where
  joined : trim_end q ++ drop (length (trim_end q)) q ≡ q
  white : all_white (drop (length (trim_end q)) q) ≡ true

end_of : (q : List ℕ) → End q
unfolding trim_end all_white
end_of [] = record { joined = refl; white = refl }
end_of (x ∷ q) = go (trim_end q) (is_white x) refl refl (end_of q).joined (end_of q).white
  where
    go : (t : List ℕ) (b : Bool) → trim_end q ≡ t → is_white x ≡ b → trim_end q ++ drop (length (trim_end q)) q ≡ q →
        all_white (drop (length (trim_end q)) q) ≡ true → End (x ∷ q)
    go [] true t b j w = record { joined = rw (t, b); white = rw (t, b) (rw b (rw t at w)) }
    go [] false t b j w = record { joined = rw (t, b); white = rw (t, b) (rw t at w) }
    go (y ∷ u) b t e j w = record { joined = rw t (ap (λ (r : List ℕ). x ∷ r) (rw t at j)); white = rw t (rw t at w) }

pub split_end : (q : List ℕ) → trim_end q ++ drop (length (trim_end q)) q ≡ q
split_end q = (end_of q).joined

pub end_white : (q : List ℕ) → all_white (drop (length (trim_end q)) q) ≡ true
end_white q = (end_of q).white

pub start_skip : (w q : List ℕ) → all_white w ≡ true → trim_start (w ++ q) ≡ trim_start q
unfolding trim_start all_white
start_skip [] q h = refl
start_skip (x ∷ w) q h = let by_both = both (is_white x) (all_white w) h in rw by_both.0 (start_skip w q by_both.1)

pub start_all : (w : List ℕ) → all_white w ≡ true → trim_start w ≡ []
unfolding trim_start all_white
start_all [] h = refl
start_all (x ∷ w) h = let by_both = both (is_white x) (all_white w) h in rw by_both.0 (start_all w by_both.1)

end_all : (w : List ℕ) → all_white w ≡ true → trim_end w ≡ []
unfolding trim_end all_white
end_all [] h = refl
end_all (x ∷ w) h = let by_both = both (is_white x) (all_white w) h in rw (end_all w by_both.1, by_both.0)

pub end_skip : (q w : List ℕ) → all_white w ≡ true → trim_end (q ++ w) ≡ trim_end q
unfolding trim_end
end_skip [] w h = end_all w h
end_skip (x ∷ q) w h = ap (keep_last x) (end_skip q w h)

-- a part is its white space and what it is trimmed to
pub split_part : (p : List ℕ) → before p ++ (trim p ++ behind p) ≡ p
split_part p = ap (λ (q : List ℕ). before p ++ q) (split_end (trim_start p)) ∙ split_start p
