-- Calls one after another: what the book and the region are after both.
use Rattle.std.proofs.Common.{Result, Ok, Err, OnOk, OnErr, ◌≡◌, ℕ, ◌≤◌, cond, List, [], ◌∷◌, ◌++◌, length, refl, sym, ◌∙◌}
use Rattle.std.proofs.Common.{ap, append_assoc, take, arith}
use Rattle.std.proofs.lemmas.List.{append-nil, length-append}
use Rattle.flow_data.specs.declared.data.FlowsData.{FlowsData}
use Rattle.flow_list.specs.Book.{after_uses}
use Rattle.flow_list.specs.Certificate.{Use, stands_in, entered, entered_with, size_uses}
use Rattle.frag_pool.specs.Nodes.{Nodes, SameTrial, back_to}
use Rattle.frag_pool.specs.Growing.{Grows, KeptGrows}
use Rattle.inner_rows.specs.TrueBook.{AreTrue, BookAfter, Extends}
use Rattle.flow_list.specs.declared.book.SizeEntry.{SizeEntry}

-- ---- the book

pub extends-same : (a : List SizeEntry) → Extends a a
extends-same a = record { more = []; is = sym (append-nil a) }

extends-both : (a b c : List SizeEntry) → Extends a b → Extends b c → Extends a c
extends-both a b c s t = record {
  more = s.more ++ t.more;
  is = t.is ∙ ap (λ xs. xs ++ t.more) s.is
      ∙ append_assoc a s.more t.more;
}

pub book-same : (d : FlowsData) (a : List SizeEntry) → AreTrue d a → BookAfter d a a
book-same d a t = record { held = extends-same a; is_true = t }

pub book-both : (d : FlowsData) (a b c : List SizeEntry) → BookAfter d a b → BookAfter d b c → BookAfter d a c
book-both d a b c s t = record { held = extends-both a b c s.held t.held; is_true = t.is_true }

-- entering two lists one after the other is entering both as one
entered-both : (first : List Use → Use → List Use) (book us vs : List Use) →
    entered_with first (entered_with first book us) vs ≡ entered_with first book (us ++ vs)
entered-both first book [] vs = refl
entered-both first book (u ∷ us) vs = entered-both first (cond (stands_in book u) book (first book u ++ u ∷ [])) us vs

pub uses-both : (d : FlowsData) (book us vs : List Use) → after_uses d (after_uses d book us) vs ≡ after_uses d book (us ++ vs)
unfolding after_uses entered
uses-both d book us vs = entered-both (λ b u. entered d (length d.rows) b (size_uses d u)) book us vs

-- and entering none changes nothing
pub uses-none : (d : FlowsData) (book : List Use) → after_uses d book [] ≡ book
unfolding after_uses entered
uses-none d book = refl

-- ---- the region

pub pool-same : (p : Nodes) → SameTrial p p
pool-same p = record { more_kept = []; kept = sym (append-nil p.kept); trial = refl }

pub pool-both : (p q r : Nodes) → SameTrial p q → SameTrial q r → SameTrial p r
pool-both p q r s t = record {
  more_kept = s.more_kept ++ t.more_kept;
  kept = t.kept ∙ ap (λ xs. xs ++ t.more_kept) s.kept ∙ append_assoc p.kept s.more_kept t.more_kept;
  trial = t.trial ∙ s.trial;
}

take-first : {X : Type 0} (xs ys : List X) → take (length xs) (xs ++ ys) ≡ xs
take-first [] ys = refl
take-first (x ∷ xs) ys = ap (λ zs. x ∷ zs) (take-first xs ys)

take-all : {X : Type 0} (xs : List X) → take (length xs) xs ≡ xs
take-all [] = refl
take-all (x ∷ xs) = ap (λ zs. x ∷ zs) (take-all xs)

-- a call that may have added trial nodes, and after that giving up what it added
module _ {A E : Type 0} (p q : Nodes) (n : ℕ) (marked : n ≡ length p.trial) where
  pub trial-within : (out : Result A E) → OnOk out (Grows p q) → OnErr out (SameTrial p q) → n ≤ length q.trial
  trial-within (Ok v) grown refused = let e = ap length grown.trial in let l = length-append p.trial grown.more_trial
      in omega arith
  trial-within (Err e) grown refused = let t = ap length refused.trial in omega arith

  pub given-up : (out : Result A E) → OnOk out (Grows p q) → OnErr out (SameTrial p q) → (r : Nodes) → r ≡ back_to q n
      → SameTrial p r
  given-up (Ok v) grown refused r back = record {
    more_kept = grown.more_kept;
    kept = ap (λ (p : Nodes). p.kept) back ∙ grown.kept;
    trial = ap (λ (p : Nodes). p.trial) back ∙ rw (marked, grown.trial) (take-first p.trial grown.more_trial);
  }
  given-up (Err e) grown refused r back = record {
    more_kept = refused.more_kept;
    kept = ap (λ (p : Nodes). p.kept) back ∙ refused.kept;
    trial = ap (λ (p : Nodes). p.trial) back ∙ rw (marked, refused.trial) (take-all p.trial);
  }

pub kept-back : (q r : Nodes) (n : ℕ) → r ≡ back_to q n → KeptGrows q r
kept-back q r n back = record { more_kept = []; kept = ap (λ (p : Nodes). p.kept) back ∙ sym (append-nil q.kept) }
