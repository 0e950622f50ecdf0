-- `pick::common_divisor` ends: the second number falls. Assumes nothing.
use Rattle.pick.proofs.+common_divisor.Given as goal

abbrev pub decreases-common_divisor : goal.decreases-common_divisor
decreases-common_divisor l = l.b
