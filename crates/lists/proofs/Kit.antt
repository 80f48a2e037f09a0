-- What proofs name of the kit, in one place: paths, lists, truth values, numbers and their orders, and the rules of `search` and `omega`.
-- A proof names what it needs in one line, `use Rattle.lists.proofs.Kit.{..}`. Assumes nothing.
pub use mathlib.Core.Path.{◌∙◌, ◌≡◌, ap, refl, subst, sym}
pub use mathlib.Core.List.{List, [], ◌++◌, ◌∷◌, append_assoc, append-nil, map}
pub use mathlib.Core.Bool.{Bool, ◌&&◌, ◌||◌, and-false, and-true, cond, false, not, or-false, or-true, true, true≢false}
pub use mathlib.Core.Logic.{◌↔◌, ◌⊎◌, inl, inr, ⊎_elim, ⊎_map}
pub use Prim.Native.Nat.{◌%◌, ◌*◌, ◌+◌, ◌-◌, ◌/◌, ◌<◌, ◌^◌, ◌≤◌, max, min, suc, zero, ℕ}
pub use native.Mathlib.Nat.{add-suc, add-zero, div-add-mod', eq-or-lt_of_le, le-max_left, le-max_right, le_of_eq, le_of_lt, le_of_suc-le-suc, max-eq_right}
pub use native.Mathlib.Nat.{max-le, min-eq_left, mod-add-mod, mod-lt, mod_self, not-suc-le-zero, pow-le-pow_right, pow-suc, zero-add}
pub use native.Mathlib.Numerals.{add-one, add-three, add-two, sub-one}
pub use native.Mathlib.Decide.{dec_le, dec_lt, ℕ_discrete}
pub use native.Mathlib.Omega.{arith}
pub use lib.ListN.{get_or-append, get_or-eq_default, drop, drop_of_length-le, get_or, get_or-replicate, length, length-append, length-drop, length-map}
pub use lib.ListN.{length-replicate, length-set, length-take, replicate, replicate-append-replicate, set, take, take-append-drop}
pub use lib.Seq.{append_snoc, drop-append-add, drop_at, drop-cons, drop-drop, drop-length, drop-nil, drop-set-add, drop-set-lt, ext_get_or, get_or-append-add}
pub use lib.Seq.{get_or-drop, get_or-set_other, get_or-set_same, get_or-take, length-paste, length_paste_head, length-sets, length-slice, length-take-le, paste}
pub use lib.Seq.{paste-suc, paste-zero, set-append_left, set-append_seam, set_at, sets, sets-eq, split_at, take-add, take_all, take-append-le}
pub use lib.Seq.{take-append_seam, take_at, take-length, take-nil, take-paste, take-set-le, take-set-lt, take-suc, take-suc-set, take-take}
pub use lib.Dec.{T, eqb, leb, ltb, ltb→lt, lt→ltb}
pub use borrow.Author.Rules.{rules}
pub use borrow.Author.Tests.{eq-eqb, eqb-false, eqb-true, le-leb, le-ltb, leb-false, leb-true, lt-leb, lt-ltb, ltb-false, ltb-true, ne_eqb, not-false}
pub use borrow.Author.Tests.{not-true}
pub use Rattle.std.specs.Prelude.{Option, Some, None}
