-- There is room in a document for the edits of a script.
use Rattle.std.proofs.Common.{ℕ, ◌+◌, ◌≤◌, List, length, chars, None, ap, arith}
use Rattle.std.specs.Prelude.{sum_by}
use Rattle.html_grammar.specs.declared.dom.Dom.{Dom}
use Rattle.html_grammar.specs.Places.{places_of}
use Rattle.html_grammar.specs.Documents.{IsDomOf}
use Rattle.html_grammar.proofs.Texts.{dom_found}
use Rattle.html_subset.specs.WellFormed.{node_bytes}
use Rattle.html_subset.proofs.DocumentsFit.{document_fits, nodes_bytes}
use Rattle.html_subset.proofs.Formed.{dom_formed}
use Rattle.html_subset.proofs.FormsFit.{token_bytes, lexed_fit}
use Rattle.html_subset.proofs.NodesFit.{costs_fit, document_count, nodes_length}
use Rattle.html_subset.proofs.PlacesFit.{text_places_fit}
use Rattle.html_subset.proofs.TextsFit.{length-le-weight}
use Rattle.script_runs.specs.Room.{DocumentsHaveRoom, EditsLeaveRoom}

-- a document has hardly more bytes than the text that spells it, and no more nodes
few_nodes : (bytes : List ℕ) (dom : Dom) → IsDomOf bytes dom
    → (length dom.nodes ≤ length bytes + 4) × (sum_by node_bytes dom.nodes ≤ length bytes + 12)
few_nodes bytes dom h =
    let text = h.text in
    let ps = places_of (chars bytes) in
    let places = text_places_fit bytes text.utf8 in
    let lexed = lexed_fit text.tokens ps text.spelled places.scalars in
    let fits = document_fits (length bytes) text.tokens h.tree (sum_by token_bytes text.tokens) text.document
    (record { utf8 = lexed.0; bound = omega arith }) in
    let many = document_count (length bytes) text.tokens h.tree text.document in
    let costly = costs_fit text.tokens ps text.spelled in (
      omega (arith, ap length h.nodes, nodes_length None 0 h.tree, many, costly, length-le-weight ps, places.bound),
      omega (arith, ap (sum_by node_bytes) h.nodes, nodes_bytes None 0 h.tree, fits.1, lexed.1, places.bound),
    )

pub documents_have_room : DocumentsHaveRoom
documents_have_room bytes dom n is small more =
    let found = dom_found bytes dom is in
    let few = few_nodes bytes dom found in
    record {
      formed = dom_formed bytes dom (omega (arith, small)) found;
      count = omega (arith, few.0, small, more);
      bytes = omega (arith, few.1, small, more);
    }

pub edits_leave_room : EditsLeaveRoom
edits_leave_room edit n dom left room utf8 = (
  record {
    utf8 = utf8;
    count = omega (arith, room.count);
    text = omega (arith, room.count);
    bytes = omega (arith, room.bytes);
  },
  λ grows formed. record {
    formed = formed;
    count = omega (arith, grows.count, room.count);
    bytes = omega (arith, grows.bytes, room.bytes);
  },
)
