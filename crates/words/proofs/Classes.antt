-- The kinds by the bounds of a table are those by its tokens.
-- Assumes nothing.
use Rattle.lists.proofs.Kit.{◌≡◌, ap, ◌∙◌, List, Bool, ℕ, ◌+◌, ◌≤◌, length, take, length-take-le}
use Rattle.list_tokens.specs.declared.Token.{Token}
use Rattle.keywords.specs.declared.KeywordSpec.{KeywordSpec}
use Rattle.list_tokens.specs.Tokens.{any_token}
use Rattle.keywords.specs.Table.{kept}
use Rattle.keywords.specs.Flat.{flat, padded, any_alpha, flat_holds, flat_of}
use Rattle.keywords.proofs.FlatLaws.{flat_front, flat_same}
use Rattle.word_kinds.specs.Places.{kind_of}

front : (ts : List Token) (n : ℕ) → length ts ≡ n → take (n + n) (padded (flat ts)) ≡ flat ts
front ts n e = rw (← e) (flat_front ts)

module _ (spec : KeywordSpec) (room : spec.len ≤ length spec.tokens) where
  class_same : (x : ℕ) → flat_of spec x ≡ any_token (kept spec) x
  class_same x = ap (λ (bs : List ℕ). flat_holds bs (any_alpha (kept spec)) x) (front (kept spec) spec.len (length-take-le spec.len spec.tokens room)) ∙
      flat_same (kept spec) x

  pub kinds_same : (big : Bool) → kind_of (flat_of spec) big ≡ kind_of (any_token (kept spec)) big
  kinds_same big = ap (λ (word : ℕ → Bool). kind_of word big) (λ i x. class_same x i)

  -- by bounds and a flag that are those of the table
  pub kinds_by : (big : Bool) (bounds : List ℕ) (letters : Bool) → bounds ≡ padded (flat (kept spec)) → letters ≡ any_alpha (kept spec) →
      kind_of (flat_holds (take (spec.len + spec.len) bounds) letters) big ≡ kind_of (any_token (kept spec)) big
  kinds_by big bounds letters b l = rw (b, l) (kinds_same big)
