-- Lists that both readers read alike: the first reader has the same tokens there, in order, and no token excludes. Assumes nothing.
use Rattle.lists.proofs.Kit.{◌≡◌, refl, ap, sym, ◌∙◌, List, [], ◌∷◌, Bool, true, false, cond, not, ◌||◌, true≢false, ℕ, arith, eqb}
use Rattle.lists.specs.Lists.{any, up_to, split}
use Rattle.list_parts.specs.Parts.{trim_start, trim_end}
use Rattle.list_tokens.specs.declared.Token.{Token}
use Rattle.list_tokens.specs.Grammar.{alpha, codes}
use Rattle.list_tokens.specs.Tokens.{tokens_in, tokens, token_holds, any_token}
use Rattle.list_tokens.proofs.TokenLaws.{tokens_keep}
use Rattle.lists.proofs.Both.{both}
use Rattle.vim_grammar.specs.declared.VimToken.{VimToken}
use Rattle.vim_grammar.specs.Tokens.{one, speaks, decided}
use Rattle.vim_grammar.specs.Grammar.{every_letter, single, between, Part, exclude, include}
use Rattle.vim_grammar.specs.Grammar.{Parts, last, caret, more, empty, parts}
use Rattle.vim_laws.specs.Common.{is_common, all_common, BothAlike}
use Rattle.vim_laws.proofs.Unbroken.{split_comma, split_end}
use Rattle.vim_laws.proofs.KeptParts.{first_token, Kept, kept_caret_lem, kept_part}

-- the first reader's tokens
unfoldable pub first_tokens : List VimToken → List Token
first_tokens [] = []
first_tokens (t ∷ ts) = first_token t ∷ first_tokens ts

-- part after part
some_kind : (t : VimToken) → (first_token t).kind ≡ 0 → ⊥
unfolding first_token
some_kind t = go (eqb t.kind 1)
  where
    go : (b : Bool) → (cond b alpha (codes t.lo t.hi)).kind ≡ 0 → ⊥
    go true e = omega arith
    go false e = omega arith

keeps : (p : List ℕ) (t : VimToken) (ps : List (List ℕ)) → Kept p t → tokens_in (p ∷ ps) ≡ first_token t ∷ tokens_in ps
keeps p t ps k = tokens_keep p ps (λ e. some_kind t (sym (ap (λ (u : Token). u.kind) k.token) ∙ e)) ∙ ap (λ (u : Token). u ∷ tokens_in ps) k.token

parts_tokens : {l : List ℕ} {ts : List VimToken} → Parts l ts → all_common ts ≡ true → tokens l ≡ first_tokens ts
unfolding all_common first_tokens tokens_in
parts_tokens (last {p = p} {t = t} d) e =
    let by_kept_part = kept_part d (both (is_common t) true e).0 in
    ap tokens_in (split_end p by_kept_part.commas) ∙ keeps p t [] by_kept_part
parts_tokens caret e =
    let by_kept_caret = kept_caret_lem in
    ap tokens_in (split_end (94 ∷ []) by_kept_caret.commas) ∙ keeps (94 ∷ []) (one false true 94) [] by_kept_caret
parts_tokens (more {p = p} {l = l} {t = t} {ts = ts} d r) e =
    let by_both = both (is_common t) (all_common ts) e in
    let by_kept_part = kept_part d by_both.0 in
    ap tokens_in (split_comma p l by_kept_part.commas) ∙ keeps p t (split 44 l) by_kept_part
    ∙ ap (λ (us : List Token). first_token t ∷ us) (parts_tokens r by_both.1)

-- a part's token holds what it speaks of, and takes nothing out
said : {p : List ℕ} {t : VimToken} (c : ℕ) → Part p t → is_common t ≡ true → (token_holds (first_token t) c ≡ speaks t c) × (t.out ≡ false)
unfolding is_common first_token
said c (exclude every_letter) e = absurd (true≢false (sym e))
said c (exclude (single d f)) e = absurd (true≢false (sym e))
said c (exclude (between d g k)) e = absurd (true≢false (sym e))
said c (include every_letter f) e = (refl, refl)
said c (include (single d g) f) e = (refl, refl)
said c (include (between d g k) f) e = (refl, refl)

turned : (s b r : Bool) → (cond s true b || r) ≡ (b || (s || r))
turned true true r = refl
turned true false r = refl
turned false b r = refl

-- one token, which takes nothing out
on_token : (t : VimToken) (ts : List VimToken) (us : List Token) (b : Bool) (c : ℕ) → token_holds (first_token t) c ≡ speaks t c → t.out ≡ false →
    ((d : Bool) → decided d ts c ≡ (d || any_token us c)) → decided b (t ∷ ts) c ≡ (b || any_token (first_token t ∷ us) c)
unfolding decided any
on_token t ts us b c h o ih = ap (λ (w : Bool). decided (cond (speaks t c) (not w) b) ts c) o ∙ ih (cond (speaks t c) true b)
    ∙ turned (speaks t c) b (any_token us c) ∙ ap (λ (w : Bool). b || (w || any_token us c)) (sym h)

none_left : (d : Bool) (c : ℕ) → decided d [] c ≡ (d || any_token [] c)
unfolding decided any
none_left true c = refl
none_left false c = refl

caret_said : (c : ℕ) → token_holds (first_token (one false true 94)) c ≡ speaks (one false true 94) c
unfolding first_token
caret_said c = refl

parts_decided : {l : List ℕ} {ts : List VimToken} → Parts l ts → all_common ts ≡ true → (b : Bool) (c : ℕ) → decided b ts c ≡ (b || any_token (first_tokens ts) c)
unfolding all_common first_tokens
parts_decided (last {t = t} d) e b c =
    let by_said = said c d (both (is_common t) true e).0 in
    on_token t [] [] b c by_said.0 by_said.1 (λ a. none_left a c)
parts_decided caret e b c = on_token (one false true 94) [] [] b c (caret_said c) refl (λ a. none_left a c)
parts_decided (more {t = t} {ts = ts} d r) e b c =
    let by_both = both (is_common t) (all_common ts) e in
    let by_said = said c d by_both.0 in
    on_token t ts (first_tokens ts) b c by_said.0 by_said.1 (λ a. parts_decided r by_both.1 a c)

-- both readers hold the same characters
pub both_alike : BothAlike
unfolding tokens_in any decided up_to split trim_start trim_end
both_alike l ts empty e c = refl
both_alike l ts (parts d) e c = ap (λ (us : List Token). any_token us c) (parts_tokens d e) ∙ sym (parts_decided d e false c)
