use Rattle.std.proofs.Common.{length, arith, refl}
use Rattle.std.proofs.lemmas.List.{length_push}
use Rattle.std.proofs.lemmas.Slice.Zip.{zip_turn}
use Rattle.slot.proofs.Laws.{one_kept}
use Rattle.slot.proofs.kept.Goals as goal

pub loop-share-preserved-then-share-h : goal.loop-share-preserved-then-share-h
loop-share-preserved-then-share-h c =
    let a = c.args in
    let share = c.in-Some.share in
    let h = c.in-Some.h in
    let v = c.loop-share.invariant in
    let t =
    zip_turn a.shares.now.items a.seats.now c.loop-share.yielded c.into_iter-share-iterator.result c.loop-share.share-iterator c.next.new.self
    c.next.result (cc) (cc) c.loop-share.yielded_by (share, h) c.in-Some.is c.next.ensures.steps in
    let e = one_kept a.shares.now.items a.seats.now (length c.loop-share.yielded) share.now h.now t.0 t.1 (t.2 share.now) (t.3 h.now) c.if-share-h.true in
    rw (length_push c.loop-share.yielded (share, h)) (record {
      within = omega arith;
      so_far = rw (e, c.push.ensures.items, v.so_far, c.less_work.ensures) refl;
    })
