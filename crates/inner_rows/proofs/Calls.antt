-- Calls one after another: what the book is after both, and what is kept stays true.
use Rattle.std.proofs.Common.{◌≡◌, Bool, true, false, List, [], ◌∷◌, ◌++◌, refl, sym, ◌∙◌, ap, append_assoc}
use Rattle.std.specs.Prelude.{ℕ, ◌||◌}
use Rattle.std.proofs.lemmas.List.{append-nil}
use Rattle.std.proofs.lemmas.List.Elements.{All-weaker}
use Rattle.std.proofs.lemmas.List.Folds.{list_any-append}
use Rattle.flow_data.specs.declared.data.FlowsData.{FlowsData}
use Rattle.flow_list.specs.Book.{AllStand}
use Rattle.flow_list.specs.Certificate.{Use, same_use, stands_in}
use Rattle.flow_list.specs.Entries.{use_of, uses_in}
use Rattle.flow_list.specs.Rows.{all_rows}
use Rattle.flow_list.specs.Tokens.{Token}
use Rattle.flow_list.specs.declared.book.SizeEntry.{SizeEntry}
use Rattle.frag_pool.specs.Growing.{KeptGrows}
use Rattle.frag_pool.specs.Nodes.{Nodes}
use Rattle.frag_pool.proofs.Growth.{stands-kept}
use Rattle.inner_rows.specs.Filling.{fill_tree}
use Rattle.inner_rows.specs.Keeping.{IsKeptFill}
use Rattle.inner_rows.specs.TrueBook.{AreTrue, BookAfter, Extends}
use Rattle.inner_rows.specs.declared.inner.Filled.{Filled}

pub extends-refl : (a : List SizeEntry) → Extends a a
extends-refl a = record { more = []; is = sym (append-nil a) }

pub extends-same : (a b : List SizeEntry) → b ≡ a → Extends a b
extends-same a b e = record { more = []; is = e ∙ sym (append-nil a) }

pub extends-trans : (a b c : List SizeEntry) → Extends a b → Extends b c → Extends a c
extends-trans a b c s t = record {
  more = s.more ++ t.more;
  is = t.is ∙ ap (λ xs. xs ++ t.more) s.is ∙ append_assoc a s.more t.more;
}

pub book-refl : (d : FlowsData) (a : List SizeEntry) → AreTrue d a → BookAfter d a a
book-refl d a true_now = record { held = extends-refl a; is_true = true_now }

pub book-trans : (d : FlowsData) (a b c : List SizeEntry) → BookAfter d a b → BookAfter d b c → BookAfter d a c
book-trans d a b c s t = record { held = extends-trans a b c s.held t.held; is_true = t.is_true }

pub uses-more : (a more : List SizeEntry) → uses_in (a ++ more) ≡ uses_in a ++ uses_in more
uses-more [] more = refl
uses-more (e ∷ a) more = ap (λ us. use_of e ∷ us) (uses-more a more)

-- ---- what stands in a book stands in a longer one

or-left : (a b : Bool) → a ≡ true → (a || b) ≡ true
or-left true b e = refl
or-left false b e = absurd (cc)

pub stands-longer : (a b : List SizeEntry) (u : Use) → Extends a b → stands_in (uses_in a) u ≡ true →
    stands_in (uses_in b) u ≡ true
stands-longer a b u longer there =
    rw (longer.is, uses-more a longer.more, list_any-append (same_use u) (uses_in a) (uses_in longer.more))
    (or-left (stands_in (uses_in a) u) (stands_in (uses_in longer.more) u) there)

pub all-stand-longer : (a b : List SizeEntry) (us : List Use) → Extends a b → AllStand (uses_in a) us → AllStand (uses_in b) us
all-stand-longer a b us longer there =
    All-weaker (λ u. stands_in (uses_in a) u ≡ true) (λ u. stands_in (uses_in b) u ≡ true)
    (λ u. stands-longer a b u longer) us there

-- a fill that is kept stays true where the book and the kept nodes grow
pub kept-fill-stays : (d : FlowsData) (b c : List SizeEntry) (p q : Nodes) (r : ℕ) (from : Token) (h : ℕ) (out : Filled) →
    IsKeptFill d b p r from h out → Extends b c → KeptGrows p q → IsKeptFill d c q r from h out
kept-fill-stays d b c p q r from h out kept longer grows = record {
  told = kept.told;
  uses = all-stand-longer b c ((all_rows d).fill r from h).uses longer kept.uses;
  frag = stands-kept p q grows out.frag (fill_tree d r from h) kept.frag;
}
