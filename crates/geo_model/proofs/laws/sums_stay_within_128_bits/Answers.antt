use Rattle.geo_model.proofs.SizeLemmas.{row-form_small, row_energy-small, energy-small, scaled_energy-small, load-small}
use Rattle.geo_model.proofs.laws.sums_stay_within_128_bits.Goals as goal

pub returns-clause-form : goal.returns-clause-form
returns-clause-form c = row-form_small

pub returns-clause-row : goal.returns-clause-row
returns-clause-row c = row_energy-small

pub returns-clause-plan : goal.returns-clause-plan
returns-clause-plan c = energy-small

pub returns-clause-scaled : goal.returns-clause-scaled
returns-clause-scaled c = scaled_energy-small

pub returns-clause-load : goal.returns-clause-load
returns-clause-load c = load-small
