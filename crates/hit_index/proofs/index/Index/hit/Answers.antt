use Rattle.std.proofs.Common.{All, ◌<◌, length, IfSome, sym, subst, ap, ◌∙◌}
use Rattle.std.proofs.lemmas.List.{drop_all}
use Rattle.hit_index.specs.Bands.{best, later, leaves_in, IsBand}
use Rattle.hit_index.specs.Scan.{leaves_of}
use Rattle.hit_index.proofs.Best.{best-hit, later-none}
use Rattle.hit_index.proofs.Known.{hit-known}
use Rattle.hit_index.proofs.Filled.{hit-next}
use Rattle.hit_index.proofs.index.Index.hit.Goals as goal

pub hit_in-requires : goal.hit_in-requires
hit_in-requires c =
    let each : All IsBand c.as_slice-band-items.result.now =
    subst (λ bands. All IsBand bands) (sym c.as_slice-band-items.ensures) c.self.invariant.each in
    subst IsBand (sym c.band-item.is) (each c.loop-band.band-index c.band-item.result c.loop-band-test.true)

pub loop-band-preserved : goal.loop-band-preserved
loop-band-preserved c =
    hit-next c.args.x c.args.y c.as_slice-band-items.result.now c.loop-band.band-index c.band-item.result c.loop-band.found
    c.hit_in.result c.later-found.result c.loop-band-test.true c.band-item.is c.hit_in.ensures c.later-found.ensures
    c.loop-band.invariant

pub returns : goal.returns
returns c =
    let none = drop_all c.loop-band.band-index c.as_slice-band-items.result.now c.loop-band-test.false in
    let same = sym (later-none c.loop-band.found)
    ∙ ap (λ bands. later c.loop-band.found (best c.args.x c.args.y (leaves_in bands))) (sym none) ∙ c.loop-band.invariant
    ∙ ap (λ bands. best c.args.x c.args.y (leaves_in bands)) c.as_slice-band-items.ensures
    ∙ c.self.invariant.same c.args.x c.args.y
    ∙ ap (λ marks. best c.args.x c.args.y (leaves_of marks)) c.self.view_is
    ∙ best-hit c.args.x c.args.y c.args.self.now in
    record {
      same = same;
      known = subst (λ o. IfSome o (λ leaf. leaf < length c.args.self.now)) (sym same)
          (hit-known c.args.x c.args.y c.args.self.now);
    }
