-- The rows among the items of a column, and their numbers.
use Rattle.std.proofs.Common.{◌≡◌, ℕ, zero, suc, ◌+◌, ◌-◌, ◌<◌, ◌≤◌, Bool, true, false, List, [], ◌++◌, length, map}
use Rattle.std.proofs.Common.{refl, sym, ◌∙◌, ap, cond, arith, Option, Some, None}
use Rattle.std.proofs.lemmas.List.{append_assoc, append-nil, map-append, get_or_past}
use Rattle.flow_list.specs.Data.{Flow, Item}
use Rattle.flow_data.specs.Flows.{item_of, seam_of, no_item}
use Rattle.flow_list.specs.Certificate.{Use}
use Rattle.flow_list.specs.Column.{is_forced, row_from, row_list}
use Rattle.flow_list.specs.ResultText.{number_in}
use Rattle.flow_list.specs.Tokens.{Token, row_start, item_number}
use Rattle.cite_laws.specs.Starts.{rows_from, before_forced, items_to}
use Rattle.cert_laws.specs.Made.{ends_after}

-- ---- the next forced break

-- one less is left
left-one : (k n : ℕ) → k < n → n - k ≡ suc (n - (k + 1))
left-one k n lt = omega arith

pub forced-on : (f : Flow) (k n total : ℕ) → k < n → is_forced (seam_of f (k + 1)).level ≡ false
    → total ≡ k + before_forced f k (n - k) → total ≡ k + 1 + before_forced f (k + 1) (n - (k + 1))
forced-on f k n total lt free so =
    let e : before_forced f k (n - k) ≡ suc (before_forced f (k + 1) (n - (k + 1))) =
    ap (before_forced f k) (left-one k n lt)
    ∙ ap (λ (t : Bool). suc (cond t 0 (before_forced f (k + 1) (n - (k + 1))))) free in
    omega arith

pub forced-at : (f : Flow) (k n total : ℕ) → k < n → is_forced (seam_of f (k + 1)).level ≡ true
    → total ≡ k + before_forced f k (n - k) → k + 1 ≡ total
forced-at f k n total lt forced so =
    let e : before_forced f k (n - k) ≡ 1 =
    ap (before_forced f k) (left-one k n lt)
    ∙ ap (λ (t : Bool). suc (cond t 0 (before_forced f (k + 1) (n - (k + 1))))) forced in
    omega arith

pub forced-none : (f : Flow) (k n total : ℕ) → n ≤ k → k ≤ n → total ≡ k + before_forced f k (n - k) → n ≡ total
forced-none f k n total le ge so =
    let none : n - k ≡ 0 = omega arith in
    let e : before_forced f k (n - k) ≡ 0 = ap (before_forced f k) none in
    omega arith

-- ---- items past the end are no rows

past-item : (f : Flow) (k : ℕ) → length f.items ≤ k → item_of f k ≡ no_item
past-item f k le = get_or_past f.items k no_item le

pub rows-past : (f : Flow) (k : ℕ) (q : Token) (n : ℕ) → length f.items ≤ k → rows_from f k q n ≡ []
rows-past f k q zero le = refl
rows-past f k q (suc n) le =
    ap (λ (item : Item). row_list (row_from item q) ++ rows_from f (k + 1) row_start n) (past-item f k le)
    ∙ rows-past f (k + 1) row_start n (omega arith)

-- so it makes no difference how many of them there are
pub rows-cut : (f : Flow) (k : ℕ) (q : Token) (m n : ℕ) → length f.items ≤ k + m → m ≤ n → rows_from f k q m ≡ rows_from f k q n
rows-cut f k q zero n past le = sym (rows-past f k q n (omega arith))
rows-cut f k q (suc m) zero past le = absurd (omega arith)
rows-cut f k q (suc m) (suc n) past le =
    ap (λ (us : List Use). row_list (row_from (item_of f k) q) ++ us)
    (rows-cut f (k + 1) row_start m n (omega arith) (omega arith))

pub end-past : (f : Flow) (first end : ℕ) (stop : Option ℕ) (q : Token) → length f.items ≤ first → end ≡ length f.items
    → rows_from f first q (end - first) ≡ rows_from f first q (ends_after f first stop)
end-past f first end stop q le is = rows-past f first q (end - first) le ∙ sym (rows-past f first q (ends_after f first stop) le)

pub end-forced : (f : Flow) (first end : ℕ) (q : Token) → end ≡ first + before_forced f first (length f.items - first)
    → rows_from f first q (end - first) ≡ rows_from f first q (ends_after f first None)
end-forced f first end q is =
    let e : end - first ≡ before_forced f first (length f.items - first) = omega arith in ap (rows_from f first q) e

pub end-cut : (f : Flow) (first end stop : ℕ) (q : Token) → first < length f.items → end ≡ length f.items → end ≤ stop
    → rows_from f first q (end - first) ≡ rows_from f first q (ends_after f first (Some stop))
end-cut f first end stop q lt is le = rows-cut f first q (end - first) (stop + 1 - first) (omega arith) (omega arith)

-- ---- rows one after another

pub rows-on : (f : Flow) (k : ℕ) (q : Token) (end : ℕ) → k < end
    → rows_from f k q (end - k) ≡ row_list (row_from (item_of f k) q) ++ rows_from f (k + 1) row_start (end - (k + 1))
rows-on f k q end lt = ap (rows_from f k q) (left-one k end lt)

pub rows-done : (f : Flow) (k : ℕ) (q : Token) (end : ℕ) → end ≤ k → rows_from f k q (end - k) ≡ []
rows-done f k q end le = let none : end - k ≡ 0 = omega arith in ap (rows_from f k q) none

pub to-stop : (f : Flow) (t : Token) (stop : Option ℕ) → ends_after f (item_number t) stop ≡ items_to f t stop
to-stop f t None = refl
to-stop f t (Some stop) = refl

-- the numbers so far, that of the row that the next item is, and those to come
pub numbers-on : (f : Flow) (bk : List Use) (sizes now total : List ℕ) (k : ℕ) (q next : Token) (end : ℕ) → next ≡ row_start
    → k < end → now ≡ sizes ++ map (number_in bk) (row_list (row_from (item_of f k) q))
    → sizes ++ map (number_in bk) (rows_from f k q (end - k)) ≡ total
    → now ++ map (number_in bk) (rows_from f (k + 1) next (end - (k + 1))) ≡ total
numbers-on f bk sizes now total k q next end start lt is so =
    let own = row_list (row_from (item_of f k) q) in
    let later = rows_from f (k + 1) row_start (end - (k + 1)) in
    ap (λ (q : Token). now ++ map (number_in bk) (rows_from f (k + 1) q (end - (k + 1)))) start
    ∙ ap (λ (ns : List ℕ). ns ++ map (number_in bk) later) is
    ∙ append_assoc sizes (map (number_in bk) own) (map (number_in bk) later)
    ∙ ap (λ (ns : List ℕ). sizes ++ ns) (sym (map-append (number_in bk) own later))
    ∙ ap (λ (us : List Use). sizes ++ map (number_in bk) us) (sym (rows-on f k q end lt)) ∙ so

pub numbers-done : (f : Flow) (bk : List Use) (sizes total : List ℕ) (k : ℕ) (q : Token) (end : ℕ) → end ≤ k
    → sizes ++ map (number_in bk) (rows_from f k q (end - k)) ≡ total → sizes ≡ total
numbers-done f bk sizes total k q end le so =
    sym (ap (λ (us : List Use). sizes ++ map (number_in bk) us) (rows-done f k q end le) ∙ append-nil sizes) ∙ so

pub ruleset item_rules = (
  forced-on,
  forced-at,
  forced-none,
  end-past,
  end-forced,
  end-cut,
  to-stop,
  numbers-on,
  numbers-done,
)
