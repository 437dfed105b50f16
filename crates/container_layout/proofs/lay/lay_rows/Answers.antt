use Rattle.std.proofs.Common.{◌≡◌, ◌+◌, ◌<◌, ◌≤◌, ◌∙◌, ℕ, Option, IfSome, sym, ap, subst, List, [], ◌++◌, arith, length}
use Rattle.std.proofs.lemmas.List.{length_push}
use Rattle.flow_list.specs.Certificate.{StackRow, book_behind}
use Rattle.flow_list.specs.Entries.{uses_in}
use Rattle.frag_pool.proofs.Growth.{grows-same-trial, same-trial-refl, same-trial-trans}
use Rattle.container_layout.specs.Found.{HasStanding, IsStanding, numbered, row_found, row_standing}
use Rattle.container_layout.specs.Laid.{AreLaidAfter}
use Rattle.container_layout.specs.declared.lay.Stands.{Stands}
use Rattle.container_layout.proofs.Laying.{behind-more}
use Rattle.container_layout.proofs.Numbers.{book-all, empty-true, rows-all, rows-more, rows_to}
use Rattle.container_layout.proofs.Standing.{nothing-stands, standing-grows, standing-pushed}
use Rattle.container_layout.proofs.Tables.{all_of}
use Rattle.container_layout.proofs.lay.lay_rows.Goals as goal

pub loop-number-init : goal.loop-number-init
loop-number-init g c = record {
  rows = rw c.new-rows.ensures tt;
  stand = rw c.new-stand.ensures.items (nothing-stands c.args.flows.now c.args.pool.now (all_of c.args.flows.now));
  count = ap length c.new-stand.ensures.items;
  uses = ap uses_in c.requires.book;
  depth = c.requires.depth;
  engine = c.requires.engine;
  book = rw c.requires.book (empty-true c.args.flows.now);
  pool = same-trial-refl c.args.pool.now;
}

pub found_at-requires : goal.found_at-requires
found_at-requires g c =
    let count = c.requires.found.count in
    let rows = c.flow_counts-count.ensures.rows in
    let lt = c.loop-number-test.true in
    omega arith

pub loop-number-preserved : goal.loop-number-preserved
loop-number-preserved g c =
    let d = c.args.flows.now in
    let n = c.loop-number.number in
    let old = c.loop-number.invariant in
    let e = c.in_ok-stands.ensures in
    let rows_known = c.flow_counts-count.ensures.rows in
    let lt = c.loop-number-test.true in
    let known : n < length d.rows = omega arith in
    let found : numbered n (all_of d) ≡ row_found n c.found_at.result =
    c.requires.found.each n known ∙ ap (row_found n) (sym c.found_at.ensures) in
    let more : rows_to d (n + 1) ≡ rows_to d n ++ row_found n c.found_at.result =
    rows-more d n ∙ ap (λ xs. rows_to d n ++ xs) found in
    let P : List StackRow → Type 0 = λ rs. AreLaidAfter d c.lay_number.new.pool [] rs c.lay_number.new.rows in
    let S : List (Option Stands) → Type 0 = λ t. HasStanding d c.lay_number.new.pool (all_of d) t in
    record {
      rows = subst P (sym more) (e.rows (rows_to d n) old.uses old.rows);
      stand = subst S (sym c.in_ok-push.ensures.items) (standing-pushed d c.lay_number.new.pool (all_of d)
          c.loop-number.stand.items
          c.in_ok-stands.stands
          (standing-grows d c.loop-number.pool c.lay_number.new.pool (grows-same-trial _ _ e.pool) (all_of d)
          c.loop-number.stand.items old.stand)
          (ap (λ m. numbered m (all_of d)) old.count ∙ found ∙ sym e.same
          ∙ ap (λ m. row_standing m c.in_ok-stands.stands) (sym old.count))
          (subst (λ (m : ℕ). IfSome c.in_ok-stands.stands (IsStanding d c.lay_number.new.pool m)) (sym old.count) e.stands));
      count = ap length c.in_ok-push.ensures.items ∙ length_push c.loop-number.stand.items c.in_ok-stands.stands
          ∙ ap (λ m. m + 1) old.count;
      uses = e.uses ∙ ap (λ b. book_behind d b (row_found n c.found_at.result)) old.uses
          ∙ sym (behind-more d [] (rows_to d n) (row_found n c.found_at.result))
          ∙ ap (book_behind d []) (sym more);
      depth = e.depth ∙ old.depth;
      engine = e.engine;
      book = e.book.is_true;
      pool = same-trial-trans _ _ _ old.pool e.pool;
    }

pub returns-clause-rows : goal.returns-clause-rows
returns-clause-rows g c =
    let d = c.args.flows.now in
    let P : List StackRow → Type 0 = λ rs. AreLaidAfter d c.loop-number.pool [] rs c.loop-number.rows in
    let a : c.loop-number.number ≤ _ = c.loop-number.auto.number-end in
    let t = c.loop-number-test.false in
    let rows = c.flow_counts-count.ensures.rows in
    let end : c.loop-number.number ≡ length d.rows = omega arith in
    subst P (ap (rows_to d) end ∙ sym (rows-all d)) c.loop-number.invariant.rows

pub returns-clause-count : goal.returns-clause-count
returns-clause-count g c =
    let d = c.args.flows.now in
    let a : c.loop-number.number ≤ _ = c.loop-number.auto.number-end in
    let t = c.loop-number-test.false in
    let rows = c.flow_counts-count.ensures.rows in
    let end : c.loop-number.number ≡ length d.rows = omega arith in
    c.loop-number.invariant.count ∙ end

pub returns-clause-uses : goal.returns-clause-uses
returns-clause-uses g c =
    let d = c.args.flows.now in
    let a : c.loop-number.number ≤ _ = c.loop-number.auto.number-end in
    let t = c.loop-number-test.false in
    let rows = c.flow_counts-count.ensures.rows in
    let end : c.loop-number.number ≡ length d.rows = omega arith in
    c.loop-number.invariant.uses ∙ ap (λ n. book_behind d [] (rows_to d n)) end ∙ book-all d
