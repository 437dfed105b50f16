use Rattle.std.proofs.Common.{◌≤◌, ◌^◌, length, sym, subst}
use Rattle.html_subset.specs.WellFormed.{AttributeIsWithin}
use Rattle.doc_sheets.specs.Parts.{is_media}
use Rattle.doc_sheets.proofs.Finding.{found_has}
use Rattle.doc_sheets.proofs.media.media_of.Goals as goal

pub parse_media-requires : goal.parse_media-requires
parse_media-requires c =
    let within = found_has (AttributeIsWithin (2 ^ 28)) is_media c.args.attributes.now c.in-Some.attribute.now
    (sym c.in-Some.ensures) c.requires in
    subst (λ text. length text ≤ 2 ^ 28) (sym c.as_slice.ensures) within.1
