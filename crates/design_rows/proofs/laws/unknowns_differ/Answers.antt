use Rattle.design_rows.proofs.UnknownFacts.{unknowns-differ}
use Rattle.design_rows.proofs.laws.unknowns_differ.Goals as goal

pub returns : goal.returns
returns c = unknowns-differ
