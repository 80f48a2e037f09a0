-- What the check found, and what the decoder then answers and leaves in the room. Assumes nothing.
use Rattle.lists.proofs.Kit.{◌≡◌, refl, ap, sym, ◌∙◌, List, ◌++◌, ℕ, ◌≤◌, ◌<◌, arith, length, drop, le-leb, lt-leb}
use Rattle.std.proofs.Common.{Ok, Err}
use Rattle.utf8.specs.declared.BadAt.{BadAt}
use Rattle.utf8.specs.declared.DecodeError.TheVariants.{Bad, NoRoom}
use Rattle.utf8.specs.Decoding.{Reading, text, bad, decoding}
use Rattle.utf8.specs.Calls.{tally, checked, decoded, decoded_in, DecodesTo}
use Rattle.utf8.specs.Walks.{text_of, points_of, Holds}

tally_points : (r : Reading) (n : ℕ) → tally r ≡ Ok n → (r ≡ text (text_of r)) × (length (text_of r) ≡ n)
unfolding tally text_of
tally_points (text t) n e = let size_is : length t ≡ n = cc in (refl, size_is)
tally_points (bad p) n e = let never : ◌≡◌ {A = ℕ} 0 1 = cc in absurd (omega arith)

tally_bad : (r : Reading) (at : BadAt) → tally r ≡ Err at → r ≡ bad at.place
unfolding tally
tally_bad (text t) at e = let never : ◌≡◌ {A = ℕ} 0 1 = cc in absurd (omega arith)
tally_bad (bad p) at e = let at_is : record { place = p } ≡ at = cc in ap (λ (a : BadAt). bad a.place) at_is

module _ (b room : List ℕ) where
  -- by what was read
  text_fits : (t : List ℕ) → decoding b ≡ text t → length t ≤ length room →
      (decoded (decoding b) (length room) ≡ Ok (length t)) × (decoded_in (decoding b) room ≡ t ++ drop (length t) room)
  unfolding decoded decoded_in
  text_fits t e h = (rw (e, le-leb (length t) (length room) h), rw (e, le-leb (length t) (length room) h))

  text_short : (t : List ℕ) → decoding b ≡ text t → length room < length t →
      (decoded (decoding b) (length room) ≡ Err NoRoom) × (decoded_in (decoding b) room ≡ room)
  unfolding decoded decoded_in
  text_short t e h = (rw (e, lt-leb (length t) (length room) h), rw (e, lt-leb (length t) (length room) h))

  bad_kept : (at : BadAt) → decoding b ≡ bad at.place → (decoded (decoding b) (length room) ≡ Err (Bad at)) × (decoded_in (decoding b) room ≡ room)
  unfolding decoded decoded_in
  bad_kept at e = (rw e, rw e)

  -- by what the check answered
  module _ (n : ℕ) (e : checked b ≡ Ok n) where
    pub check_holds : n ≤ length room → Holds b 0 0 room
    check_holds h =
        let by_tally_points = tally_points (decoding b) n e in
        record { within = omega arith; rest = by_tally_points.0; most = omega arith; front = refl; room = omega (arith, by_tally_points.1) }

    pub check_text : n ≤ length room → Ok n ≡ decoded (decoding b) (length room)
    check_text h =
        let by_tally_points = tally_points (decoding b) n e in
        sym ((text_fits (points_of b) by_tally_points.0 (omega (arith, by_tally_points.1))).0 ∙ rw by_tally_points.1)

    pub check_short : length room < n → DecodesTo b room (Err NoRoom) room
    check_short h =
        let by_tally_points = tally_points (decoding b) n e in
        let by_text_short = text_short (points_of b) by_tally_points.0 (omega (arith, by_tally_points.1)) in
        record { answer = sym by_text_short.0; left = sym by_text_short.1 }

  pub check_bad : (at : BadAt) → checked b ≡ Err at → DecodesTo b room (Err (Bad at)) room
  check_bad at e =
      let by_bad_kept = bad_kept at (tally_bad (decoding b) at e) in
      record { answer = sym by_bad_kept.0; left = sym by_bad_kept.1 }

  -- by what was written
  pub written_in_lem : Holds b 0 0 room → (points : List ℕ) → points ≡ points_of b ++ drop (length (points_of b)) room → points ≡ decoded_in (decoding b) room
  written_in_lem h points e = e ∙ sym (text_fits (points_of b) h.rest h.room).1
