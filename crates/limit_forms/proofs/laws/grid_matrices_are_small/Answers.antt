use Rattle.limit_forms.proofs.GridEntries.{lower_triangle, upper_triangle, lower_small, upper_small, lower_heads, upper_heads}
use Rattle.limit_forms.proofs.laws.grid_matrices_are_small.Goals as goal

pub returns-clause-lower_shape : goal.returns-clause-lower_shape
returns-clause-lower_shape c = lower_triangle

pub returns-clause-upper_shape : goal.returns-clause-upper_shape
returns-clause-upper_shape c = upper_triangle

pub returns-clause-lower_size : goal.returns-clause-lower_size
returns-clause-lower_size c = lower_small

pub returns-clause-upper_size : goal.returns-clause-upper_size
returns-clause-upper_size c = upper_small

pub returns-clause-lower_heads : goal.returns-clause-lower_heads
returns-clause-lower_heads c = lower_heads

pub returns-clause-upper_heads : goal.returns-clause-upper_heads
returns-clause-upper_heads c = upper_heads
