use Rattle.std.proofs.Common.{◌≡◌, [], sym, true}
use Rattle.std.proofs.lemmas.List.Elements.{All-nil}
use Rattle.flow_list.specs.Certificate.{stands_in}
use Rattle.flow_list.specs.Entries.{uses_in}
use Rattle.flow_data.specs.Flows.{flow_of}
use Rattle.frag_pool.proofs.Growth.{grows-refl}
use Rattle.column_maker.proofs.Rooms.{behind-room}
use Rattle.column_maker.proofs.Rows.{one-more-made}
use Rattle.column_maker.proofs.place.stand_last.Goals as goal

pub returns-in_err-stand_cut-in-Some-clause-grown : goal.returns-in_err-stand_cut-in-Some-clause-grown
returns-in_err-stand_cut-in-Some-clause-grown g c = grows-refl c.args.pool.now

pub returns-in_ok-stand_cut-in-Some-clause-grown : goal.returns-in_ok-stand_cut-in-Some-clause-grown
returns-in_ok-stand_cut-in-Some-clause-grown g c = grows-refl c.args.pool.now

pub returns-in_ok-stand_cut-in-Some-clause-made : goal.returns-in_ok-stand_cut-in-Some-clause-made
returns-in_ok-stand_cut-in-Some-clause-made g c =
    rw c.in_ok-stand_cut-in-Some.ensures.rows
    (one-more-made c.args.flows.now c.args.pool.now c.args.pool.now (grows-refl c.args.pool.now) _ _ c.requires.made
    (rw c.in-Some.is at c.requires.cut).1)

pub returns-in_ok-stand_item-in-None-clause-room : goal.returns-in_ok-stand_item-in-None-clause-room
returns-in_ok-stand_item-in-None-clause-room g c =
    behind-room c.args.flows.now (flow_of c.args.flows.now c.args.flow) c.args.k c.args.from.now c.args.at.now c.requires.room
    _ c.stand_item.new.at c.in_ok-stand_item-in-None.ensures.leads

pub returns-in_ok-stand_cut-in-Some-clause-uses : goal.returns-in_ok-stand_cut-in-Some-clause-uses
returns-in_ok-stand_cut-in-Some-clause-uses g c =
    rw c.in-Some.is (sym ((c.uses_enter.ensures c.args.flows.now).none_new (uses_in c.args.book.now) []
    (All-nil (λ u. stands_in (uses_in c.args.book.now) u ≡ true))))
