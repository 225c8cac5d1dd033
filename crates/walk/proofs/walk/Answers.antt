use Rattle.std.proofs.Common.{sym, arith}
use Rattle.figures.specs.Jobs.{as_jobs}
use Rattle.walk.proofs.Room.{IsRoom, capacity_fits, is_room}
use Rattle.walk.proofs.Steps.{walk_start, walk_short, walk_end, walk_on, next_nearest, next_in_week}
use Rattle.walk.proofs.walk.Goals as goal
use Rattle.walk.proofs.walk.Goals.{After-room_of-room}

room_here : (c : After-room_of-room) → IsRoom c.args.machines (as_jobs c.args.jobs.now.items) c.loop-room.b c.room_of-room.result
room_here c =
    let q = c.requires in
    is_room c.args.jobs.now.items c.args.machines c.loop-room.b q.machines c.loop-room.invariant.within _ _ c.forced_by.ensures.value c.forced_by.ensures.small
    c.room_of-room.ensures

pub loop-room-init : goal.loop-room-init
loop-room-init c = record { within = omega arith; from_here = walk_start (as_jobs c.args.jobs.now.items) c.args.machines }

pub room_of-room-requires : goal.room_of-room-requires
room_of-room-requires c = (capacity_fits c.args.machines c.loop-room.b c.requires.machines c.loop-room.invariant.within, c.forced_by.ensures.small)

pub returns-in_default : goal.returns-in_default
returns-in_default c =
    let here = room_here (goal.at.returns-in_default c).After-room_of-room in
    let l = c.loop-room in
    sym
    (walk_end (as_jobs c.args.jobs.now.items) c.args.machines l.b l.invariant.from_here _ here.same (rw here.read at c.if-room-lt0.false)
    (next_nearest l.b c.args.jobs.now.items _ c.in_default.ensures))

pub loop-room-smaller : goal.loop-room-smaller
loop-room-smaller c =
    let next = next_nearest c.loop-room.b c.args.jobs.now.items _ c.in-Some.ensures in
    omega (arith, next.0, next_in_week (as_jobs c.args.jobs.now.items) _ _ next c.requires.small)

pub loop-room-preserved : goal.loop-room-preserved
loop-room-preserved c =
    let here = room_here (goal.at.loop-room-preserved c).After-room_of-room in
    let jobs = as_jobs c.args.jobs.now.items in
    let l = c.loop-room in
    let next = next_nearest l.b c.args.jobs.now.items _ c.in-Some.ensures in
    record {
      within = next_in_week jobs _ _ next c.requires.small;
      from_here =
          walk_on jobs c.args.machines l.b l.invariant.from_here _ here.same (rw here.read at c.if-room-lt0.false) _ next;
    }

pub returns : goal.returns
returns c =
    let here = room_here (goal.at.returns c).After-room_of-room in
    let l = c.loop-room in
    rw (c.shortage_of.ensures, here.read)
    (sym
    (walk_short (as_jobs c.args.jobs.now.items) c.args.machines l.b l.invariant.from_here _ here.same (rw here.read at c.if-room-lt0.true)))
