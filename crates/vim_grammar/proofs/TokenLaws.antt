-- Laws of tokens: the last one that speaks of a character decides. Assumes nothing.
use Rattle.lists.proofs.Kit.{◌≡◌, refl, ap, ◌∙◌, List, [], ◌∷◌, ◌++◌, Bool, true, false, cond, not, ◌||◌, ℕ}
use Rattle.lists.specs.Lists.{any}
use Rattle.vim_grammar.specs.declared.VimToken.{VimToken}
use Rattle.vim_grammar.specs.Tokens.{speaks, decided, in_vim}

-- tokens that don't speak of c leave what was said
pub decided_silent : (b : Bool) (ts : List VimToken) (c : ℕ) → any (λ t. speaks t c) ts ≡ false → decided b ts c ≡ b
unfolding decided any
decided_silent b [] c e = refl
decided_silent b (t ∷ ts) c e = go (speaks t c) e (decided_silent b ts c)
  where
    go : (s : Bool) → (s || any (λ u. speaks u c) ts) ≡ false → (any (λ u. speaks u c) ts ≡ false → decided b ts c ≡ b) →
        decided (cond s (not t.out) b) ts c ≡ b
    go true f ih = let never : ◌≡◌ {A = Bool} true false = f in cc
    go false f ih = ih f

pub decided_append : (b : Bool) (ts us : List VimToken) (c : ℕ) → decided b (ts ++ us) c ≡ decided (decided b ts c) us c
unfolding decided
decided_append b [] us c = refl
decided_append b (t ∷ ts) us c = decided_append (cond (speaks t c) (not t.out) b) ts us c

-- a token that speaks of c, with none after it that does, decides
pub last_decides :
    (ts us : List VimToken) (t : VimToken) (c : ℕ) → speaks t c ≡ true → any (λ u. speaks u c) us ≡ false → in_vim (ts ++ (t ∷ us)) c ≡ not t.out
unfolding decided
last_decides ts us t c e f = decided_append false ts (t ∷ us) c ∙ ap (λ (s : Bool). decided (cond s (not t.out) (decided false ts c)) us c) e
    ∙ decided_silent (not t.out) us c f

pub none_decides : (ts : List VimToken) (c : ℕ) → any (λ t. speaks t c) ts ≡ false → in_vim ts c ≡ false
none_decides ts c e = decided_silent false ts c e
