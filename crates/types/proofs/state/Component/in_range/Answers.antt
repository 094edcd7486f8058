-- `Component::in_range`: the tests are those of the definition. Assumes nothing.
use Rattle.types.proofs.state.Component.in_range.Goals as goal

pub returns : goal.returns
returns c = cc
