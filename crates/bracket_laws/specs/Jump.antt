-- The % key, as statements over where it goes to from a row and a column.
-- From document 01, "What every public promise has to say". Definitions only; the proofs are in `proofs/Jump.antt`. Assumes nothing.
use Rattle.std.specs.Prelude.{◌≡◌, ◌⊎◌, List, ℕ, ◌≤◌, ◌<◌, get_or}
use Rattle.text.specs.Text.{row_at, row_len}
use Rattle.bracket_kinds.specs.declared.Kind.{Kind}
use Rattle.bracket_kinds.specs.declared.Kind.TheVariants.{Angle}
use Rattle.text.specs.declared.Position.{Position}
use Rattle.bracket_walks.specs.declared.Partner.TheVariants.{There, None, Refused}
use Rattle.bracket_kinds.specs.Kinds.{open_of, close_of}
use Rattle.bracket_laws.specs.Demand.{PartnerAt, NoPartner}
use Rattle.brackets.specs.Find.{key_from}

-- a round, square or curly bracket
pub record Plain (x : ℕ) : Type 0 where
  pub kind : Kind
  pub no_angle : kind ≡ Angle → ⊥
  pub bracket : (x ≡ open_of kind) ⊎ (x ≡ close_of kind)

abbrev pub plain_at : List ℕ → ℕ → ℕ → Type 0
plain_at t row i = Plain (get_or (row_at t row) i 0)

-- the first such bracket at or after the column, in the row
pub record FirstPlain (t : List ℕ) (row col i : ℕ) : Type 0 where
  pub from : col ≤ i
  pub in_row : i < row_len t row
  pub plain : plain_at t row i
  pub first : (m : ℕ) → col ≤ m → m < i → plain_at t row m → ⊥

abbrev pub pos_at : ℕ → ℕ → Position
pos_at row col = record { row = row; col = col }

-- q is the partner of the first such bracket
pub record Lands (t : List ℕ) (row col : ℕ) (q : Position) : Type 0 where
  pub at : ℕ
  pub first : FirstPlain t row col at
  pub partner : PartnerAt t (pos_at row at) q

-- there is no such bracket, or the first has no partner
pub data Stays (t : List ℕ) (row col : ℕ) : Type 0 where
  no_plain : ((m : ℕ) → col ≤ m → m < row_len t row → plain_at t row m → ⊥) → Stays t row col
  no_partner : (i : ℕ) → FirstPlain t row col i → NoPartner t (pos_at row i) → Stays t row col

-- where the key goes it lands on that partner, away from where it was; it stays exactly where there is none; it refuses nothing
pub record KeyGoes (t : List ℕ) : Type 0 where
  pub lands : (row col : ℕ) (q : Position) → key_from t row col ≡ There q → Lands t row col q
  pub lands_only : (row col : ℕ) (q : Position) → Lands t row col q → key_from t row col ≡ There q
  pub moves : (row col : ℕ) → key_from t row col ≡ There (pos_at row col) → ⊥
  pub stays : (row col : ℕ) → key_from t row col ≡ None → Stays t row col
  pub stays_only : (row col : ℕ) → Stays t row col → key_from t row col ≡ None
  pub answers : (row col f : ℕ) → key_from t row col ≡ Refused f → ⊥
