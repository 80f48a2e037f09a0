-- Laws of reading: a byte that can stand there, and one that can't; and a whole sequence. Assumes nothing.
use Rattle.lists.proofs.Kit.{◌≡◌, refl, ap, List, [], ◌∷◌, true, false, and-false, ℕ, suc, ◌+◌, ◌*◌, ◌-◌, ◌≤◌, ◌<◌, le-leb, lt-leb}
use Rattle.utf8.specs.Decoding.{bad, onto, is_lead, tails_of, low_of, high_of, bits_of, ended, reading, reading_from}

-- between two sequences nothing is kept of the first
pub reading_fresh : (low high value at : ℕ) (s : List ℕ) → reading 0 low high value at s ≡ reading_from at s
unfolding reading
reading_fresh low high value at [] = refl
reading_fresh low high value at (a ∷ s) = refl

module _ (at a : ℕ) (s : List ℕ) where
  pub lead_on : is_lead a ≡ true → reading_from at (a ∷ s) ≡ ended (tails_of a) (bits_of a) (reading (tails_of a) (low_of a) (high_of a) (bits_of a) (at + 1) s)
  unfolding reading
  lead_on e = rw e

  pub lead_bad : is_lead a ≡ false → reading_from at (a ∷ s) ≡ bad at
  unfolding reading
  lead_bad e = rw e

  module _ (left low high value : ℕ) where
    pub tail_on : low ≤ a → a ≤ high → reading (suc left) low high value at (a ∷ s) ≡
        ended left (value * 64 + (a - 0x80)) (reading left 0x80 0xbf (value * 64 + (a - 0x80)) (at + 1) s)
    unfolding reading
    tail_on h k = rw (le-leb low a h, le-leb a high k)

    pub tail_low : a < low → reading (suc left) low high value at (a ∷ s) ≡ bad at
    unfolding reading
    tail_low h = rw (lt-leb low a h)

    pub tail_high : high < a → reading (suc left) low high value at (a ∷ s) ≡ bad at
    unfolding reading
    tail_high h = rw (lt-leb a high h, and-false)

-- a whole sequence, by its length
module _ (at a x : ℕ) (s : List ℕ) (lead : is_lead a ≡ true) where
  pub read_one : tails_of a ≡ 0 → bits_of a ≡ x → reading_from at (a ∷ s) ≡ onto x (reading_from (at + 1) s)
  unfolding reading ended
  read_one t e = rw (lead, t, e) (ap (onto x) (reading_fresh _ _ x (at + 1) s))

  pub read_two : (b : ℕ) → tails_of a ≡ 1 → low_of a ≤ b → b ≤ high_of a → bits_of a * 64 + (b - 0x80) ≡ x →
      reading_from at (a ∷ b ∷ s) ≡ onto x (reading_from (at + 1 + 1) s)
  unfolding reading ended
  read_two b t h k e = rw (lead, t, le-leb (low_of a) b h, le-leb b (high_of a) k, e) (ap (onto x) (reading_fresh _ _ x (at + 1 + 1) s))

  pub read_three : (b c : ℕ) → tails_of a ≡ 2 → low_of a ≤ b → b ≤ high_of a → 0x80 ≤ c → c ≤ 0xbf → (bits_of a * 64 + (b - 0x80)) * 64 + (c - 0x80) ≡ x →
      reading_from at (a ∷ b ∷ c ∷ s) ≡ onto x (reading_from (at + 1 + 1 + 1) s)
  unfolding reading ended
  read_three b c t h k i j e =
      rw (lead, t, le-leb (low_of a) b h, le-leb b (high_of a) k, le-leb 0x80 c i, le-leb c 0xbf j, e) (ap (onto x) (reading_fresh _ _ x (at + 1 + 1 + 1) s))

  pub read_four : (b c d : ℕ) → tails_of a ≡ 3 → low_of a ≤ b → b ≤ high_of a → 0x80 ≤ c → c ≤ 0xbf → 0x80 ≤ d → d ≤ 0xbf →
      ((bits_of a * 64 + (b - 0x80)) * 64 + (c - 0x80)) * 64 + (d - 0x80) ≡ x →
      reading_from at (a ∷ b ∷ c ∷ d ∷ s) ≡ onto x (reading_from (at + 1 + 1 + 1 + 1) s)
  unfolding reading ended
  read_four b c d t h k i j m n e =
      rw (lead, t, le-leb (low_of a) b h, le-leb b (high_of a) k, le-leb 0x80 c i, le-leb c 0xbf j, le-leb 0x80 d m, le-leb d 0xbf n, e)
      (ap (onto x) (reading_fresh _ _ x (at + 1 + 1 + 1 + 1) s))
