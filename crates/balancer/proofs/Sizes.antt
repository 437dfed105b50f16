-- What a true book tells of a size, and the book after a size is entered.
use Rattle.std.proofs.Common.{◌≡◌, ℕ, ◌<◌, Bool, true, false, cond, List, [], ◌∷◌, ◌++◌, length, Some, None, All}
use Rattle.std.proofs.Common.{refl, sym, ◌∙◌, ap, subst}
use Rattle.std.specs.Prelude.{◌||◌, ◌==◌}
use Rattle.std.specs.Cmp.{unsigned_Decides, first_so, second_so}
use Rattle.std.proofs.lemmas.List.Elements.{All-nil, All-cons, All-head, All-tail, All-push}
use Rattle.flow_data.specs.declared.data.FlowsData.{FlowsData}
use Rattle.flow_data.specs.Flows.{flow_in, row_of}
use Rattle.flow_list.specs.Book.{AllStand, AreOfRows, after_uses}
use Rattle.flow_list.specs.Certificate.{Use, same_token, same_use, stands_in, size_uses, uses_of}
use Rattle.flow_list.specs.Entries.{use_of, uses_in, entry_for}
use Rattle.flow_list.specs.RowHeights.{size_of}
use Rattle.flow_list.specs.Rows.{all_rows, columns, fill_in}
use Rattle.flow_list.specs.Tokens.{Token}
use Rattle.flow_list.specs.declared.book.SizeEntry.{SizeEntry}
use Rattle.range_laws.specs.Entering.{BookStaysTrue}
use Rattle.inner_rows.specs.TrueBook.{AreTrue, BookAfter, IsTrueEntry}
use Rattle.inner_rows.proofs.Calls.{extends-trans, uses-more}
use Rattle.balancer.specs.Balancing.{balanced_uses}

token-same : (p q : Token) → same_token p q ≡ true → p ≡ q
token-same [] [] e = refl
token-same [] (j ∷ q) e = absurd (cc)
token-same (i ∷ p) [] e = absurd (cc)
token-same (i ∷ p) (j ∷ q) e =
    let i_is : i ≡ j = (unsigned_Decides i j).0 (first_so (i == j) (same_token p q) e) in
    let p_is : p ≡ q = token-same p q (second_so (i == j) (same_token p q) e) in
    cc

use-same : (u v : Use) → same_use u v ≡ true → u ≡ v
use-same (r, q) (s, p) e =
    let r_is : r ≡ s = (unsigned_Decides r s).0 (first_so (r == s) (same_token q p) e) in
    let q_is : q ≡ p = token-same q p (second_so (r == s) (same_token q p) e) in
    cc

-- ---- what is found

-- the entry that is found is one of the book's, of this row and place
found-is : (P : SizeEntry → Type 0) (book : List SizeEntry) (u : Use) (e : SizeEntry) → All P book → entry_for book u ≡ Some e →
    P e × (u ≡ use_of e)
found-is P [] u e all is = absurd (cc)
found-is P (x ∷ book) u e all is = go (same_use u (use_of x)) refl (found-is P book u e (All-tail P x book all)) is
  where
    go : (b : Bool) → same_use u (use_of x) ≡ b → (entry_for book u ≡ Some e → P e × (u ≡ use_of e)) →
        cond b (Some x) (entry_for book u) ≡ Some e → P e × (u ≡ use_of e)
    go true at again found =
        let same : x ≡ e = cc in
        (subst P same (All-head P x book all), use-same u (use_of x) at ∙ ap use_of same)
    go false at again found = again found

pub found-size : (d : FlowsData) (book : List SizeEntry) (r : ℕ) (q : Token) (e : SizeEntry) → AreTrue d book →
    entry_for book (r, q) ≡ Some e → e.height ≡ size_of d r q
found-size d book r q e true_now is =
    let found = found-is (IsTrueEntry d) book (r, q) e true_now.each is in
    found.0.size ∙ ap (λ (u : Use). size_of d u.0 u.1) (sym found.1)

found-there : (book : List SizeEntry) (u : Use) (e : SizeEntry) → entry_for book u ≡ Some e → stands_in (uses_in book) u ≡ true
found-there [] u e is = absurd (cc)
found-there (x ∷ book) u e is = go (same_use u (use_of x)) (found-there book u e) is
  where
    go : (b : Bool) → (entry_for book u ≡ Some e → stands_in (uses_in book) u ≡ true) →
        cond b (Some x) (entry_for book u) ≡ Some e → (b || stands_in (uses_in book) u) ≡ true
    go true again found = refl
    go false again found = again found

-- it stands there, so entering it changes nothing
pub found-stands : (book : List SizeEntry) (u : Use) (e : SizeEntry) → entry_for book u ≡ Some e →
    AllStand (uses_in book) (u ∷ [])
found-stands book u e is =
    All-cons (λ v. stands_in (uses_in book) v ≡ true) u [] (found-there book u e is)
    (All-nil (λ v. stands_in (uses_in book) v ≡ true))

-- what isn't found doesn't stand there
pub none-stands : (book : List SizeEntry) (u : Use) → entry_for book u ≡ None → stands_in (uses_in book) u ≡ false
none-stands [] u is = refl
none-stands (x ∷ book) u is = go (same_use u (use_of x)) (none-stands book u) is
  where
    go : (b : Bool) → (entry_for book u ≡ None → stands_in (uses_in book) u ≡ false) →
        cond b (Some x) (entry_for book u) ≡ None → (b || stands_in (uses_in book) u) ≡ false
    go true again found = absurd (cc)
    go false again found = again found

-- ---- what is entered

-- a search without a limit uses what the size uses
pub own-uses : (d : FlowsData) (r : ℕ) (q : Token) → balanced_uses d r q None ≡ size_uses d (r, q)
unfolding balanced_uses size_uses
own-uses d r q = refl

-- the uses in a book to which a size is added after those that it uses
pub entered-uses : (d : FlowsData) → BookStaysTrue d → (old mid new : List SizeEntry) (e : SizeEntry) → e.row < length d.rows →
    stands_in (uses_in old) (use_of e) ≡ false → uses_in mid ≡ after_uses d (uses_in old) (size_uses d (use_of e)) →
    new ≡ mid ++ e ∷ [] → uses_in new ≡ after_uses d (uses_in old) (use_of e ∷ [])
entered-uses d law old mid new e row none uses is =
    ap uses_in is ∙ uses-more mid (e ∷ []) ∙ ap (λ us. us ++ use_of e ∷ []) uses ∙ sym (law.one_size (uses_in old)
    (use_of e) row none)

-- and that book is true
pub entered-book : (d : FlowsData) → BookStaysTrue d → (old mid new : List SizeEntry) (e : SizeEntry) → AreTrue d old →
    BookAfter d old mid → IsTrueEntry d e → stands_in (uses_in old) (use_of e) ≡ false →
    uses_in mid ≡ after_uses d (uses_in old) (size_uses d (use_of e)) → new ≡ mid ++ e ∷ [] → BookAfter d old new
entered-book d law old mid new e true_old after entry none uses is = record {
  held = extends-trans old mid new after.held (record { more = e ∷ []; is = is });
  is_true = record {
    each = rw is (All-push (IsTrueEntry d) mid e after.is_true.each entry);
    order = rw (entered-uses d law old mid new e entry.of_a_row none uses is)
        (law.stays_true (uses_in old) (use_of e ∷ []) one true_old.order);
  };
}
  where
    one : AreOfRows d (use_of e ∷ [])
    one = All-cons (λ (u : Use). u.0 < length d.rows) (use_of e) [] entry.of_a_row (All-nil (λ (u : Use). u.0 < length d.rows))

-- what a fill uses is what its columns use
pub fill-uses : (d : FlowsData) (r : ℕ) (q : Token) (h n : ℕ) → (all_rows d).fill r q h ≡ fill_in (all_rows d) d r q h →
    n ≡ (row_of d r).n → uses_of (columns (all_rows d) d (flow_in d r) n q h) ≡ ((all_rows d).fill r q h).uses
unfolding fill_in
fill-uses d r q h n told is = rw (told, is) refl
