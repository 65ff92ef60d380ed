-- The six mainline lanes and the four metered ones; counts in range have room for the tick.
use Rattle.period.proofs.RangeLaws.{PeriodsGood, periods_good, room_for_lane, room_for_passage}
use Rattle.period.specs.Counting.{counted_of}
use native.Mathlib.Omega.{arith}
use Rattle.period.proofs.count.counted.Goals as goal
use Rattle.period.proofs.count.counted.Goals.{Start}

good : (s : Start) → PeriodsGood s.args.p s.args.shape.lanes s.args.shape.mainline
good s = periods_good s.args.p s.args.shape.lanes s.args.shape.mainline s.requires.0

pub lane_counted_at-a-requires : goal.lane_counted_at-a-requires
lane_counted_at-a-requires c =
    room_for_lane c.args.lanes c.args.main c.args.shape.lanes c.args.shape.mainline c.requires.1 c.args.p.current c.args.p.ticks (good (goal.at.lane_counted_at-a-requires c).Start).current (omega (arith, (good (goal.at.lane_counted_at-a-requires c).Start).ticks)) 0 (omega arith)

pub lane_counted_at-b-requires : goal.lane_counted_at-b-requires
lane_counted_at-b-requires c =
    room_for_lane c.args.lanes c.args.main c.args.shape.lanes c.args.shape.mainline c.requires.1 c.args.p.current c.args.p.ticks (good (goal.at.lane_counted_at-b-requires c).Start).current (omega (arith, (good (goal.at.lane_counted_at-b-requires c).Start).ticks)) 1 (omega arith)

pub lane_counted_at-d-requires : goal.lane_counted_at-d-requires
lane_counted_at-d-requires c =
    room_for_lane c.args.lanes c.args.main c.args.shape.lanes c.args.shape.mainline c.requires.1 c.args.p.current c.args.p.ticks (good (goal.at.lane_counted_at-d-requires c).Start).current (omega (arith, (good (goal.at.lane_counted_at-d-requires c).Start).ticks)) 2 (omega arith)

pub lane_counted_at-e-requires : goal.lane_counted_at-e-requires
lane_counted_at-e-requires c =
    room_for_lane c.args.lanes c.args.main c.args.shape.lanes c.args.shape.mainline c.requires.1 c.args.p.current c.args.p.ticks (good (goal.at.lane_counted_at-e-requires c).Start).current (omega (arith, (good (goal.at.lane_counted_at-e-requires c).Start).ticks)) 3 (omega arith)

pub lane_counted_at-f-requires : goal.lane_counted_at-f-requires
lane_counted_at-f-requires c =
    room_for_lane c.args.lanes c.args.main c.args.shape.lanes c.args.shape.mainline c.requires.1 c.args.p.current c.args.p.ticks (good (goal.at.lane_counted_at-f-requires c).Start).current (omega (arith, (good (goal.at.lane_counted_at-f-requires c).Start).ticks)) 4 (omega arith)

pub lane_counted_at-g-requires : goal.lane_counted_at-g-requires
lane_counted_at-g-requires c =
    room_for_lane c.args.lanes c.args.main c.args.shape.lanes c.args.shape.mainline c.requires.1 c.args.p.current c.args.p.ticks (good (goal.at.lane_counted_at-g-requires c).Start).current (omega (arith, (good (goal.at.lane_counted_at-g-requires c).Start).ticks)) 5 (omega arith)

pub passages_at-requires : goal.passages_at-requires
passages_at-requires c =
    (omega arith, room_for_passage c.args.lanes c.args.main c.args.shape.lanes c.args.shape.mainline c.requires.1 c.args.p.current c.args.p.ticks (good (goal.at.passages_at-requires c).Start).current (omega (arith, (good (goal.at.passages_at-requires c).Start).ticks)) 0 (omega arith))

pub passages_at-requires-2 : goal.passages_at-requires-2
passages_at-requires-2 c =
    (omega arith, room_for_passage c.args.lanes c.args.main c.args.shape.lanes c.args.shape.mainline c.requires.1 c.args.p.current c.args.p.ticks (good (goal.at.passages_at-requires-2 c).Start).current (omega (arith, (good (goal.at.passages_at-requires-2 c).Start).ticks)) 1 (omega arith))

pub passages_at-requires-3 : goal.passages_at-requires-3
passages_at-requires-3 c =
    (omega arith, room_for_passage c.args.lanes c.args.main c.args.shape.lanes c.args.shape.mainline c.requires.1 c.args.p.current c.args.p.ticks (good (goal.at.passages_at-requires-3 c).Start).current (omega (arith, (good (goal.at.passages_at-requires-3 c).Start).ticks)) 2 (omega arith))

pub passages_at-requires-4 : goal.passages_at-requires-4
passages_at-requires-4 c =
    (omega arith, room_for_passage c.args.lanes c.args.main c.args.shape.lanes c.args.shape.mainline c.requires.1 c.args.p.current c.args.p.ticks (good (goal.at.passages_at-requires-4 c).Start).current (omega (arith, (good (goal.at.passages_at-requires-4 c).Start).ticks)) 3 (omega arith))

pub returns : goal.returns
unfolding counted_of
returns c = simp (c.passages_at.ensures, c.passages_at-2.ensures, c.passages_at-3.ensures, c.passages_at-4.ensures, c.lane_counted_at-a.ensures, c.lane_counted_at-b.ensures, c.lane_counted_at-d.ensures, c.lane_counted_at-e.ensures, c.lane_counted_at-f.ensures, c.lane_counted_at-g.ensures)
