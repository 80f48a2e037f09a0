-- Laws of the sequence that begins at an index, by its lead: a single byte, none at all, or what `follow` goes on with. Assumes nothing.
use Rattle.lists.proofs.Kit.{◌≡◌, sym, ◌∙◌, List, true, false, ℕ, ◌+◌, ◌-◌, ◌≤◌, ◌<◌, arith, length, get_or, drop}
use Rattle.lists.proofs.Lists.{drop_at}
use Rattle.utf8.specs.Decoding.{bad, onto, is_lead, tails_of, low_of, high_of, bits_of, ended, reading, reading_from}
use Rattle.utf8.specs.Sequences.{bits_below, Begun}
use Rattle.utf8.proofs.Leads.{lead_two, lead_three, lead_four, lead_not_low, lead_not_high, low_else, high_else, low_least, high_most}
use Rattle.utf8.proofs.Ascii.{read_ascii}
use Rattle.utf8.proofs.Readings.{lead_on, lead_bad}

-- lo and hi are the bounds of the byte after the lead
module _ (b : List ℕ) (at : ℕ) (h : at < length b) where
  abbrev lead : ℕ
  lead = get_or b at 0

  pub begins_one : lead < 0x80 → reading_from at (drop at b) ≡ onto lead (reading_from (at + 1) (drop (at + 1) b))
  begins_one l = rw (drop_at b at h) (read_ascii at lead (drop (at + 1) b) l)

  begins_none : is_lead lead ≡ false → reading_from at (drop at b) ≡ bad at
  begins_none e = rw (drop_at b at h) (lead_bad at lead (drop (at + 1) b) e)

  pub begins_low : 0x80 ≤ lead → lead < 0xc2 → reading_from at (drop at b) ≡ bad at
  begins_low l m = begins_none (lead_not_low lead l m)

  pub begins_high : 0xf4 < lead → reading_from at (drop at b) ≡ bad at
  begins_high l = begins_none (lead_not_high lead l)

  begins_more : (left value lo hi : ℕ) → (is_lead lead ≡ true) × (tails_of lead ≡ left) × (bits_of lead ≡ value) → lo ≡ low_of lead → hi ≡ high_of lead →
      reading_from at (drop at b) ≡ ended left value (reading left lo hi value (at + 1) (drop (at + 1) b))
  begins_more left value lo hi f el eh = rw (drop_at b at h, el, eh) (lead_on at lead (drop (at + 1) b) f.0 ∙ rw (f.1, f.2))

  pub begins_two : 0xc2 ≤ lead → lead < 0xe0 → reading_from at (drop at b) ≡ ended 1 (lead - 0xc0) (reading 1 0x80 0xbf (lead - 0xc0) (at + 1) (drop (at + 1) b))
  begins_two l m = begins_more 1 (lead - 0xc0) 0x80 0xbf (lead_two lead l m)
      (sym (low_else lead (λ e. omega arith) (λ e. omega arith))) (sym (high_else lead (λ e. omega arith) (λ e. omega arith)))

  module _ (lo hi : ℕ) (el : lo ≡ low_of lead) (eh : hi ≡ high_of lead) where
    pub begins_three : 0xe0 ≤ lead → lead < 0xf0 → reading_from at (drop at b) ≡ ended 2 (lead - 0xe0) (reading 2 lo hi (lead - 0xe0) (at + 1) (drop (at + 1) b))
    begins_three l m = begins_more 2 (lead - 0xe0) lo hi (lead_three lead l m) el eh

    pub begins_four : 0xf0 ≤ lead → lead ≤ 0xf4 → reading_from at (drop at b) ≡ ended 3 (lead - 0xf0) (reading 3 lo hi (lead - 0xf0) (at + 1) (drop (at + 1) b))
    begins_four l m = begins_more 3 (lead - 0xf0) lo hi (lead_four lead l m) el eh

    -- `follow` can go on
    pub begun_more : (left value : ℕ) → left ≤ 3 → value < bits_below left → Begun (at + 1) (length b) left lo hi value
    begun_more left value few small =
        record { within = omega arith; few = few; low = omega (arith, low_least lead); high = omega (arith, high_most lead); small = small }
