-- Each size that is entered stands once, after the sizes that it uses.
use Rattle.std.proofs.Common.{◌≡◌, ℕ, zero, suc, ◌+◌, ◌<◌, ◌≤◌, Bool, true, false, cond, List, [], ◌∷◌, ◌++◌, subst, sym, refl}
use Rattle.std.proofs.Common.{◌∙◌, ap, arith}
use Rattle.std.proofs.lemmas.Bool.{or_from}
use Rattle.std.proofs.lemmas.List.{append_assoc, append-nil}
use Rattle.std.proofs.lemmas.List.Folds.{list_any-append}
use Rattle.flow_list.specs.Data.{FlowsData}
use Rattle.flow_list.specs.Certificate.{Use, same_use, stands_in, size_uses, entered, entered_with}
use Rattle.range_laws.proofs.Above.{Above, above-less, above-append, not-above}
use Rattle.range_laws.proofs.Standing.{Stand, stand-more, stand-here}

-- each of these, entered after a book, uses what stands before it, and stands there once
abbrev pub Follow : FlowsData → List Use → List Use → Type 0
Follow d book [] = Unit {0}
Follow d book (u ∷ us) = Stand book (size_uses d u) × (stands_in book u ≡ false) × Follow d (book ++ u ∷ []) us

follow-append : (d : FlowsData) (book xs ys : List Use) → Follow d book xs → Follow d (book ++ xs) ys → Follow d book (xs ++ ys)
follow-append d book [] ys f g = subst (λ bs. Follow d bs ys) (append-nil book) g
follow-append d book (x ∷ xs) ys f g =
    let h = subst (λ bs. Follow d bs ys) (sym (append_assoc book (x ∷ []) xs)) g in
    (f.0, f.1, follow-append d (book ++ x ∷ []) xs ys f.2 h)

-- what is entered after a book, and what is true of it
pub record Entered (d : FlowsData) (b n : ℕ) (book us after : List Use) : Type 0 where
  pub more : List Use
  pub is : after ≡ book ++ more
  pub stand : Stand after us
  pub follow : Follow d book more
  pub above : Above b n more

module _ (d : FlowsData) (n : ℕ) (deeper : (u : Use) → u.0 < n → Above (u.0 + 1) n (size_uses d u)) where
  -- one size entered after what it uses
  one-entered : (b : ℕ) (book us : List Use) (u : Use) (first after : List Use) → b ≤ u.0 → u.0 < n → stands_in book u ≡ false →
      Entered d (u.0 + 1) n book (size_uses d u) first →
      Entered d b n (first ++ u ∷ []) us after → Entered d b n book (u ∷ us) after
  one-entered b book us u first after le lt none one rest =
      let new : after ≡ (first ++ u ∷ []) ++ rest.more = rest.is in
      let at : first ++ u ∷ [] ≡ book ++ (one.more ++ u ∷ []) = ap (λ xs. xs ++ u ∷ []) one.is
      ∙ append_assoc book one.more (u ∷ []) in
      let fresh : stands_in first u ≡ false =
      ap (λ xs. stands_in xs u) one.is ∙ (list_any-append (same_use u) book one.more
      ∙ or_from (stands_in book u) (stands_in one.more u) none (not-above u n one.more one.above)) in
      let stand : Stand (book ++ one.more) (size_uses d u) = subst (λ xs. Stand xs (size_uses d u)) one.is one.stand in
      record {
        more = (one.more ++ u ∷ []) ++ rest.more;
        is = new ∙ (ap (λ xs. xs ++ rest.more) at ∙ append_assoc book (one.more ++ u ∷ []) rest.more);
        stand = (subst (λ xs. stands_in xs u ≡ true) (sym new) (stand-here first rest.more u), rest.stand);
        follow = follow-append d book (one.more ++ u ∷ []) rest.more
            (follow-append d book one.more (u ∷ []) one.follow (stand, subst (λ xs. stands_in xs u ≡ false) one.is fresh, tt))
            (subst (λ xs. Follow d xs rest.more) at rest.follow);
        above = above-append b n (one.more ++ u ∷ []) rest.more
            (above-append b n one.more (u ∷ []) (above-less b (u.0 + 1) n one.more (omega arith) one.above) ((le, lt), tt))
            rest.above;
      }

  -- where it stands there
  none-entered : (b : ℕ) (book us : List Use) (u : Use) (after : List Use) → stands_in book u ≡ true →
      Entered d b n book us after → Entered d b n book (u ∷ us) after
  none-entered b book us u after e rest = record {
    more = rest.more;
    is = rest.is;
    stand = (subst (λ xs. stands_in xs u ≡ true) (sym rest.is) (stand-more book rest.more u e), rest.stand);
    follow = rest.follow;
    above = rest.above;
  }

  with-first : (first : List Use → Use → List Use) (b : ℕ) →
      ((book : List Use) (u : Use) → b ≤ u.0 → u.0 < n → Entered d (u.0 + 1) n book (size_uses d u) (first book u)) →
      (book us : List Use) → Above b n us → Entered d b n book us (entered_with first book us)
  with-first first b each book [] a = record { more = []; is = sym (append-nil book); stand = tt; follow = tt; above = tt }
  with-first first b each book (u ∷ us) a = go (stands_in book u) refl (λ bs. with-first first b each bs us a.1)
    where
      go : (x : Bool) → stands_in book u ≡ x → ((bs : List Use) → Entered d b n bs us (entered_with first bs us)) →
          Entered d b n book (u ∷ us) (entered_with first (cond x book (first book u ++ u ∷ [])) us)
      go true e later = none-entered b book us u (entered_with first book us) e (later book)
      go false e later = one-entered b book us u (first book u) (entered_with first (first book u ++ u ∷ []) us) a.0.0 a.0.1 e
          (each book u a.0.0 a.0.1) (later (first book u ++ u ∷ []))

  -- sizes of rows from b on, entered to a depth that holds all rows after
  pub entered-follow : (depth b : ℕ) → n ≤ b + depth → (book us : List Use) → Above b n us →
      Entered d b n book us (entered d depth book us)
  unfolding entered
  entered-follow zero b le book [] a = record { more = []; is = sym (append-nil book); stand = tt; follow = tt; above = tt }
  entered-follow zero b le book (u ∷ us) a = let k = a.0.0 in let m = a.0.1 in absurd (omega arith)
  entered-follow (suc depth) b le book us a =
      with-first (λ c u. entered d depth c (size_uses d u)) b
      (λ c u from lt. entered-follow depth (u.0 + 1) (omega arith) c (size_uses d u) (deeper u lt)) book us a
