-- The flows that a flow file within the limits says are sound.
use Rattle.std.proofs.Common.{◌≡◌, ℕ, zero, suc, ◌+◌, ◌-◌, ◌*◌, ◌^◌, ◌<◌, ◌≤◌, Bool, false, List, [], ◌∷◌, ◌++◌, length, Option}
use Rattle.std.proofs.Common.{Some, None, refl, sym, ap, ◌∙◌, subst, arith, All, sum_by}
use Rattle.std.specs.Prelude.{flat_map}
use Rattle.std.proofs.Math.Nat.{mul-le-mul}
use Rattle.std.proofs.lemmas.List.{append-nil}
use Rattle.std.proofs.lemmas.List.Elements.{All-nil, All-cons, All-weaker}
use Rattle.std.proofs.lemmas.List.Sums.{sum_by-cons}
use Rattle.flow_text.specs.declared.line.Line.{Line}
use Rattle.flow_text.specs.declared.line.Form.TheVariants as forms
use Rattle.flow_text.specs.Grammar.{Rest, no_more, line, FlowFile, content_lines, IsContent}
use Rattle.flow_text.specs.TreeLimits.{depth, all_items, most_inner, of_content}
use Rattle.flow_list.specs.Data.{Bound, BoxInfo, FlowsData, RowInfo, Stack}
use Rattle.flow_data.specs.Flows.{flow_in, rows_in}
use Rattle.flow_list.specs.FileFlows.{IsFile, limit_of, flows_of, outer_flow, row_count, row_flow, rows_from, flows_from}
use Rattle.flow_list.specs.FileFlows.{boxes_from, bound_of, content_flows, content_rows, content_boxes}
use Rattle.flow_data.specs.Soundness.{count_of, flow_height, flow_owners, IsSoundFlow, IsSoundRow, IsInnerRow, NestsAtMost}
use Rattle.flow_data.specs.Soundness.{flows_within, IsSoundStack, IsSound}
use Rattle.flow_data.proofs.Counts.{count-append, times_in, times-cons}
use Rattle.flow_list.proofs.OuterFlow.{outer_sound, each_of_one}
use Rattle.flow_list.proofs.FileFlowSound.{content_flows_all}
use Rattle.flow_list.proofs.FileLimits.{IsLow, IsLowContent, IsWithinLimits, file_within_limits}
use Rattle.flow_list.proofs.FileFlowSound.{content_flows_all}
use Rattle.flow_list.proofs.FilePlaces.{length-flows, length-rows, line_total, length-lines, row-lines, box-lines, ArePlaced}
use Rattle.flow_list.proofs.FilePlaces.{are_placed, ForRows, for_each}
use Rattle.flow_list.proofs.FileNumbers.{own_rows, count-rows_in, flow_numbers, count-flow_numbers}
use Rattle.flow_list.proofs.FileNests.{length-items, nests, all_nest, HaveItems, have_items, inner, all_inner}
use Rattle.flow_list.proofs.FileSums.{items_of, sum-items, IsLowBox, low_boxes, flow-heights}
use Rattle.flow_list.proofs.FileAcross.{IsPlainFlow, outer_plain, all_plain, no_stacks_named, no_stacks_within, IsNearRow}
use Rattle.flow_list.proofs.FileAcross.{near_rows, sound_rows, across}

-- ---- the data, with what stands in the first row as one rest, which may be empty

-- of the first row: how many columns it has, their width and step, and how it is filled; of the stack: its width and bound
record First : Type 0 where
  n : ℕ
  w : ℕ
  step : ℕ
  auto : Bool
  stack_w : ℕ
  bound : Bound

abbrev row_0 : First → RowInfo
row_0 f = record { flow = 1; n = f.n; w = f.w; step = f.step; x = 0; auto = f.auto }

abbrev stack_0 : First → Stack
stack_0 f = record { flow = 0; w = f.stack_w; bound = f.bound }

abbrev data_of : First → Rest → FlowsData
data_of f rest = record {
  flows = outer_flow ∷ row_flow 1 rest ∷ flows_from 1 rest;
  rows = row_0 f ∷ rows_from 1 rest;
  boxes = boxes_from rest;
  stacks = stack_0 f ∷ [];
}

record IsSmall (f : First) (rest : Rest) : Type 0 where
  some_column : 0 < f.n
  column_limit : f.n ≤ 32
  w_limit : f.w ≤ 2 ^ 24
  step_limit : f.step ≤ 2 ^ 24
  stack_limit : f.stack_w < 2 ^ 60
  low : IsLow rest
  items : HaveItems rest
  nest_limit : depth rest ≤ 2
  item_limit : all_items rest ≤ 100000
  inner_limit : most_inner rest ≤ 2000
  line_limit : line_total rest ≤ 2 ^ 28

placed : (f : First) (rest : Rest) → ArePlaced (data_of f rest) 1 rest
placed f rest = are_placed (data_of f rest) rest 1 [] [] (sym (append-nil (flows_from 1 rest)))
    (sym (append-nil (rows_from 1 rest)))

each_row : (P : ℕ → Type 0) (rest : Rest) → P 0 → ForRows P 1 rest → (j : ℕ) → j < suc (row_count rest) → P j
each_row P rest first others zero lt = first
each_row P rest first others (suc j) lt = for_each P rest 1 (suc j) others (omega arith) (omega arith)

-- ---- numbers

row_once : (j n : ℕ) → j < suc n → times_in j 0 1 + times_in j 1 n ≡ 1
row_once j n lt = omega arith

flow_once : (j n : ℕ) → j < suc (suc n) → times_in j 1 1 + (times_in j 2 n + times_in j 0 1) ≡ 1
flow_once j n lt = omega arith

row_belongs : (f : First) (rest : Rest) (j : ℕ) → j < suc (row_count rest)
    → count_of j (flat_map rows_in (data_of f rest).flows) ≡ 1
row_belongs f rest j lt =
    let inner = flat_map rows_in (flows_from 1 rest) in
    times-cons j 0 (own_rows 1 rest ++ inner)
    ∙ ap (λ (n : ℕ). times_in j 0 1 + n) (count-append j (own_rows 1 rest) inner ∙ count-rows_in j rest 1)
    ∙ row_once j (row_count rest) lt

flow_belongs : (f : First) (rest : Rest) (j : ℕ) → j < suc (suc (row_count rest)) → count_of j (flow_owners (data_of f rest)) ≡ 1
flow_belongs f rest j lt =
    let numbers = flow_numbers (rows_from 1 rest) in
    let last : count_of j (0 ∷ []) ≡ times_in j 0 1 = times-cons j 0 [] ∙ plus_none (times_in j 0 1) in
    times-cons j 1 (numbers ++ 0 ∷ [])
    ∙ ap (λ (n : ℕ). times_in j 1 1 + n) (count-append j numbers (0 ∷ []) ∙ both _ _ _ _ (count-flow_numbers j rest 1) last)
    ∙ flow_once j (row_count rest) lt
  where
    plus_none : (n : ℕ) → n + 0 ≡ n
    plus_none n = omega arith

    both : (a b c e : ℕ) → a ≡ b → c ≡ e → a + c ≡ b + e
    both a b c e p q = omega arith

-- ---- the whole

stack_sound : (f : First) (rest : Rest) → f.stack_w < 2 ^ 60 → All IsPlainFlow (data_of f rest).flows
    → IsSoundStack (data_of f rest) 0
stack_sound f rest limit plain =
    let d = data_of f rest in
    let within = flows_within d 3 0 in
    record {
      flow = omega arith;
      w_limit = limit;
      named = ap (count_of 0) (no_stacks_named d.flows plain);
      later = subst (λ (ns : List ℕ). All (λ named. 0 < named) ns) (sym (no_stacks_within d plain within)) (All-nil _);
    }

first_row_sound : (f : First) (rest : Rest) → IsSmall f rest → IsSoundRow (data_of f rest) (row_0 f)
first_row_sound f rest small = record {
  flow = omega arith;
  some_column = small.some_column;
  column_limit = small.column_limit;
  step_limit = omega arith;
  x_limit = omega arith;
  w_limit = omega arith;
}

near_boxes : (boxes : List BoxInfo) → All IsLowBox boxes → All (λ (b : BoxInfo). (b.x < 2 ^ 60) × (b.w < 2 ^ 60)) boxes
near_boxes boxes low = All-weaker IsLowBox (λ (b : BoxInfo). (b.x < 2 ^ 60) × (b.w < 2 ^ 60))
    (λ b h. (omega (arith, h.0), omega (arith, h.1))) boxes low

all_items_few : (f : First) (rest : Rest) → sum_by (items_of (data_of f rest)) (data_of f rest).rows ≡ all_items rest
all_items_few f rest =
    let d = data_of f rest in
    let first = sum_by-cons (items_of d) (row_0 f) (rows_from 1 rest) in
    let own = length-items rest 1 in
    let all = sum-items d rest 1 (placed f rest) in
    omega arith

low_height : (f : First) (rest : Rest) → IsSmall f rest → sum_by (flow_height (data_of f rest)) (data_of f rest).flows < 2 ^ 60
low_height f rest small =
    let d = data_of f rest in
    let first = sum_by-cons (flow_height d) outer_flow (row_flow 1 rest ∷ flows_from 1 rest) in
    let others = flow-heights d rest 1 small.low (low_boxes rest small.low) in
    let lines = small.line_limit in
    omega arith

sound_data : (f : First) (rest : Rest) → IsSmall f rest → All (IsSoundFlow (data_of f rest)) (data_of f rest).flows
    → IsSound (data_of f rest)
sound_data f rest small sound =
    let d = data_of f rest in
    let low = small.low in
    let lines = small.line_limit in
    let deep = small.nest_limit in
    let flow_total : length d.flows ≡ suc (suc (row_count rest)) = ap (λ (n : ℕ). suc (suc n)) (length-flows rest 1) in
    let row_total : length d.rows ≡ suc (row_count rest) = ap suc (length-rows rest 1) in
    let few_rows = row-lines rest in
    let few_boxes = box-lines rest in
    let at = placed f rest in
    let plain : All IsPlainFlow d.flows = all_plain outer_flow rest 1 outer_plain in
    let boxes = low_boxes rest low in
    let near : All IsNearRow d.rows = All-cons IsNearRow (row_0 f) (rows_from 1 rest) (omega arith) (near_rows rest 1 low) in
    record {
      flow_count = omega arith;
      row_count = omega arith;
      box_count = omega arith;
      stack_count = omega arith;
      some_stack = omega arith;
      flows = sound;
      rows = All-cons (IsSoundRow d) (row_0 f) (rows_from 1 rest) (first_row_sound f rest small)
          (sound_rows d rest 1 low (omega arith));
      boxes = near_boxes (boxes_from rest) boxes;
      stacks = each_of_one (IsSoundStack d) (stack_sound f rest small.stack_limit plain);
      flow_belongs = λ j lt. flow_belongs f rest j (omega arith);
      row_belongs = λ j lt. row_belongs f rest j (omega arith);
      inner_rows = λ j lt.
          each_row (λ outer. All (IsInnerRow d outer) (rows_in (flow_in d outer))) rest
          (inner d 0 rest 1 (omega arith) at small.items small.inner_limit) (all_inner d rest 1 at small.items small.inner_limit)
          j (omega arith);
      nest_limit = λ j lt. each_row (NestsAtMost d 3) rest (nests d 2 rest 1 at deep) (all_nest d 2 rest 1 at (omega arith)) j
          (omega arith);
      item_limit = omega (arith, all_items_few f rest, small.item_limit);
      heights = low_height f rest small;
      across = across d boxes near plain (length d.flows) 0 0 (omega arith);
    }

-- ---- the file

abbrev rest_of : Option Rest → Rest
rest_of None = no_more
rest_of (Some rest) = rest

same_data : (f : First) (content : Option Rest)
    → data_of f (rest_of content) ≡ record {
      flows = outer_flow ∷ content_flows content;
      rows = row_0 f ∷ content_rows content;
      boxes = content_boxes content;
      stacks = stack_0 f ∷ [];
    }
same_data f None = refl
same_data f (Some rest) = refl

low_rest : (content : Option Rest) → IsLowContent content → IsLow (rest_of content)
low_rest None h = tt
low_rest (Some rest) h = h

some_items : (content : Option Rest) → IsContent content → HaveItems (rest_of content)
some_items None h = tt
some_items (Some rest) h = have_items rest false [] h

same_count : (g : Rest → ℕ) (content : Option Rest) → g no_more ≡ 0 → g (rest_of content) ≡ of_content g content
same_count g None e = e
same_count g (Some rest) e = refl

rest_lines : (content : Option Rest) (after : List Line) → line_total (rest_of content) ≤ length (content_lines content after)
rest_lines None after = omega arith
rest_lines (Some rest) after = omega (arith, length-lines rest after)

abbrev first_of : FlowFile → First
first_of file = record {
  n = file.n;
  w = file.w;
  step = file.step;
  auto = file.auto;
  stack_w = (file.n - 1) * file.step + file.w;
  bound = bound_of file.available;
}

small_file : (text : List ℕ) (file : FlowFile) → length text ≤ 2 ^ 28 → IsContent file.content → IsWithinLimits text file
    → IsSmall (first_of file) (rest_of file.content)
small_file text file few is h =
    let n = h.column_limit in
    let w = h.w_limit in
    let step = h.step_limit in
    let behind : file.n - 1 ≤ 31 = omega arith in
    let product : (file.n - 1) * file.step ≤ 31 * 2 ^ 24 = mul-le-mul behind step in
    let nest = h.nest_limit in
    let same_depth = same_count depth file.content refl in
    let lines = rest_lines file.content (line file.ended forms.Close ∷ []) in
    let all_lines = h.line_limit in
    record {
      some_column = h.some_column;
      column_limit = n;
      w_limit = w;
      step_limit = step;
      stack_limit = omega arith;
      low = low_rest file.content h.low;
      items = some_items file.content is;
      nest_limit = omega arith;
      item_limit = omega (arith, same_count all_items file.content refl, h.item_limit);
      inner_limit = omega (arith, same_count most_inner file.content refl, h.inner_limit);
      line_limit = omega arith;
    }

-- where its flows are each sound
sound_from_flows : (text : List ℕ) (file : FlowFile) → length text ≤ 2 ^ 28 → IsFile text file → limit_of file ≡ None
    → All (IsSoundFlow (flows_of file)) (content_flows file.content) → IsSound (flows_of file)
sound_from_flows text file few is none flows =
    let f = first_of file in
    let rest = rest_of file.content in
    let same : data_of f rest ≡ flows_of file = same_data f file.content in
    let small = small_file text file few is.on_grammar.content (file_within_limits text file is none) in
    let outer = outer_sound (flows_of file) (omega arith) in
    let sound : All (IsSoundFlow (flows_of file)) (flows_of file).flows =
    All-cons (IsSoundFlow (flows_of file)) outer_flow (content_flows file.content) outer flows in
    subst IsSound same (sound_data f rest small (subst (λ (d : FlowsData). All (IsSoundFlow d) d.flows) (sym same) sound))

pub file_is_sound : (text : List ℕ) (file : FlowFile) → length text ≤ 2 ^ 28 → IsFile text file → limit_of file ≡ None
    → IsSound (flows_of file)
file_is_sound text file few is none =
    let limits = file_within_limits text file is none in
    sound_from_flows text file few is none (content_flows_all file is.lines is.on_grammar limits.low limits.item_limit)
