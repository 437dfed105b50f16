use Rattle.std.proofs.Common.{◌<◌, ◌-◌, ◌∙◌, ℕ, [], All, flat_map, sym, subst}
use Rattle.std.proofs.lemmas.List.{take_all}
use Rattle.std.proofs.lemmas.List.Elements.{All-more, All-cons, All-nil}
use Rattle.flow_data.specs.Data.{Item, RowInfo}
use Rattle.flow_data.specs.Flows.{no_item, flow_of, row_in}
use Rattle.flow_data.specs.Soundness.{stack_in, stacks_in, flows_within}
use Rattle.flow_data.proofs.Everywhere.{RowNamesLater, later-here, later-none, later-rows, later-from_rows, of_row_at, some-deep}
use Rattle.flow_data.proofs.Verdicts.{refused, accepted, not_so}
use Rattle.flow_data.proofs.sound_stacks.+names_later.Goals as goal

pub returns-then-not-all_name_behind : goal.returns-then-not-all_name_behind
returns-then-not-all_name_behind t c =
    let d = c.args.parts.now in
    refused _ (λ h. not_so c.all_name_behind.ensures c.if-not-all_name_behind.true
    (subst (All (λ item. All (λ named. c.args.stack < named) (stack_in item))) (sym c.items_of-items.ensures)
    (later-here d c.args.stack c.args.depth c.args.flow h)))

pub returns-then-depth-eq0 : goal.returns-then-depth-eq0
returns-then-depth-eq0 t c =
    let d = c.args.parts.now in
    accepted _ (later-none d c.args.stack c.args.depth c.args.flow c.if-depth-eq0.true
    (subst (All (λ item. All (λ named. c.args.stack < named) (stack_in item))) c.items_of-items.ensures
    (c.all_name_behind.ensures.0 c.if-not-all_name_behind.false)))

pub returns-then-not-names_later : goal.returns-then-not-names_later
unfolding RowNamesLater
returns-then-not-names_later t c =
    let d = c.args.parts.now in
    let P : ℕ → Type 0 = λ named. c.args.stack < named in
    let Within : ℕ → Type 0 = λ n. All P (flat_map (λ f. stacks_in (flow_of d f)) (flows_within d n c.args.flow)) in
    let Deep : RowInfo → Type 0 =
    λ (r : RowInfo). All P (flat_map (λ f. stacks_in (flow_of d f)) (flows_within d (c.args.depth - 1) r.flow)) in
    refused _ (λ h. not_so c.names_later.ensures c.if-not-names_later.true (subst Deep (sym c.row_of.ensures)
    (of_row_at (RowNamesLater d c.args.stack (c.args.depth - 1)) c.items_of-items.result.now (flow_of d c.args.flow)
    c.loop-item.item-index c.in-Row.row c.items_of-items.ensures c.loop-item-test.true c.in-Row.is
    (later-rows d c.args.stack (c.args.depth - 1) c.args.flow
    (subst Within (sym (some-deep c.args.depth c.if-depth-eq0.false)) h)))))

pub loop-item-preserved : goal.loop-item-preserved
unfolding RowNamesLater
loop-item-preserved t c =
    let d = c.args.parts.now in
    let P : ℕ → Type 0 = λ named. c.args.stack < named in
    let Row : ℕ → Type 0 = RowNamesLater d c.args.stack (c.args.depth - 1) in
    let Deep : RowInfo → Type 0 =
    λ (r : RowInfo). All P (flat_map (λ f. stacks_in (flow_of d f)) (flows_within d (c.args.depth - 1) r.flow)) in
    let here : Row c.in-Row.row = subst Deep c.row_of.ensures (c.names_later.ensures.0 c.if-not-names_later.false) in
    All-more (λ item. All Row (row_in item)) c.items_of-items.result.now c.loop-item.item-index no_item c.loop-item-test.true
    c.loop-item.invariant
    (subst (λ (item : Item). All Row (row_in item)) (sym c.in-Row.is) (All-cons Row c.in-Row.row [] here (All-nil Row)))

pub returns : goal.returns
returns t c =
    let d = c.args.parts.now in
    let P : ℕ → Type 0 = λ named. c.args.stack < named in
    let Within : ℕ → Type 0 = λ n. All P (flat_map (λ f. stacks_in (flow_of d f)) (flows_within d n c.args.flow)) in
    let Rows : Item → Type 0 = λ (item : Item). All (RowNamesLater d c.args.stack (c.args.depth - 1)) (row_in item) in
    let here = subst (All (λ item. All P (stack_in item))) c.items_of-items.ensures
    (c.all_name_behind.ensures.0 c.if-not-all_name_behind.false) in
    let deep = subst (All Rows) (take_all c.loop-item.item-index c.items_of-items.result.now c.loop-item-test.false
    ∙ c.items_of-items.ensures) c.loop-item.invariant in
    accepted _ (subst Within (some-deep c.args.depth c.if-depth-eq0.false)
    (later-from_rows d c.args.stack (c.args.depth - 1) c.args.flow here deep))
