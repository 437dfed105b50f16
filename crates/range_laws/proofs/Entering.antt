-- Entering sizes: lists one after another, a book only grows, what was entered stands there, and what stands there changes
-- nothing.
use Rattle.std.proofs.Common.{◌≡◌, ℕ, zero, suc, Bool, true, false, cond, List, [], ◌∷◌, ◌++◌, length, refl, subst, sym, ◌∙◌, ap}
use Rattle.std.proofs.lemmas.List.{append_assoc, append-nil}
use Rattle.flow_list.specs.Data.{FlowsData}
use Rattle.flow_list.specs.Book.{after_uses}
use Rattle.flow_list.specs.Certificate.{Use, stands_in, size_uses, entered, entered_with}
use Rattle.range_laws.specs.Entering.{Extends, UsesEnter}
use Rattle.range_laws.proofs.Standing.{Stand, stand-more, stand-here, stand-all, all-stand}

-- the book after one size
abbrev one_more : (List Use → Use → List Use) → List Use → Use → List Use
one_more first book u = cond (stands_in book u) book (first book u ++ u ∷ [])

with-append : (first : List Use → Use → List Use) (book us vs : List Use) →
    entered_with first (entered_with first book us) vs ≡ entered_with first book (us ++ vs)
with-append first book [] vs = refl
with-append first book (u ∷ us) vs = with-append first (one_more first book u) us vs

extends-trans : (a b c : List Use) → Extends a b → Extends b c → Extends a c
extends-trans a b c s t = record {
  more = s.more ++ t.more;
  is = t.is ∙ ap (λ xs. xs ++ t.more) s.is
      ∙ append_assoc a s.more t.more;
}

extends-same : (a : List Use) → Extends a a
extends-same a = record { more = []; is = sym (append-nil a) }

module _ (first : List Use → Use → List Use) (grows : (b : List Use) (u : Use) → Extends b (first b u)) where
  one-extends : (book : List Use) (u : Use) → Extends book (one_more first book u)
  one-extends book u = go (stands_in book u)
    where
      go : (t : Bool) → Extends book (cond t book (first book u ++ u ∷ []))
      go true = extends-same book
      go false = extends-trans book (first book u) (first book u ++ u ∷ []) (grows book u) (record { more = u ∷ []; is = refl })

  with-extends : (book us : List Use) → Extends book (entered_with first book us)
  with-extends book [] = extends-same book
  with-extends book (u ∷ us) = extends-trans book (one_more first book u) (entered_with first (one_more first book u) us)
      (one-extends book u) (with-extends (one_more first book u) us)

  one-stands : (book : List Use) (u : Use) → stands_in (one_more first book u) u ≡ true
  one-stands book u = go (stands_in book u) refl
    where
      go : (t : Bool) → stands_in book u ≡ t → stands_in (cond t book (first book u ++ u ∷ [])) u ≡ true
      go true is = is
      go false is = subst (λ xs. stands_in xs u ≡ true) (append-nil (first book u ++ u ∷ [])) (stand-here (first book u) [] u)

  with-stand : (book us : List Use) → Stand (entered_with first book us) us
  with-stand book [] = tt
  with-stand book (u ∷ us) =
      let next = one_more first book u in
      let long = with-extends next us in
      (subst (λ xs. stands_in xs u ≡ true) (sym long.is) (stand-more next long.more u (one-stands book u)), with-stand next us)

with-standing : (first : List Use → Use → List Use) (book us : List Use) → Stand book us → entered_with first book us ≡ book
with-standing first book [] stand = refl
with-standing first book (u ∷ us) stand = rw stand.0 (with-standing first book us stand.1)

pub entered-extends : (d : FlowsData) (n : ℕ) (book us : List Use) → Extends book (entered d n book us)
unfolding entered
entered-extends d zero book us = extends-same book
entered-extends d (suc n) book us = with-extends (λ b u. entered d n b (size_uses d u))
    (λ b u. entered-extends d n b (size_uses d u)) book us

pub uses-enter : (d : FlowsData) → UsesEnter d
unfolding after_uses entered
uses-enter d = record {
  one_list = λ book us vs. with-append (λ b u. entered d (length d.rows) b (size_uses d u)) book us vs;
  extends = λ book us. entered-extends d (suc (length d.rows)) book us;
  stand = λ book us. stand-all _ us (with-stand (λ b u. entered d (length d.rows) b (size_uses d u))
      (λ b u. entered-extends d (length d.rows) b (size_uses d u)) book us);
  none_new = λ book us stand. with-standing (λ b u. entered d (length d.rows) b (size_uses d u)) book us
      (all-stand book us stand);
}
