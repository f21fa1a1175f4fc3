use Rattle.bt_capture.proofs.reporting.body_of.Goals as goal

pub returns-in-false : goal.returns-in-false
returns-in-false c a b turns i heard = c.in-false.ensures a.front b.front (c.start.ensures a b i) (c.start-2.ensures a b i)

pub returns-in-true : goal.returns-in-true
returns-in-true c a b turns i heard = (
  c.in-true.ensures a.front b.front (c.start.ensures a b i) (c.start-2.ensures a b i),
  c.direction_of.ensures a b i,
  c.direction_of-in-true.ensures a b i,
  c.closed_of.ensures a b i,
  c.remarks_of.ensures a b turns i heard,
  c.left_of.ensures,
)
