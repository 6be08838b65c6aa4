-- How many descriptors a process has: for `Tables::close_one`, `Tables::dup`, `Tables::end_process` and others.
use Rattle.fd_table.proofs.Common.{common_steps, ◌<◌, ◌≤◌, arith, Limits, descriptor_limit}

-- a process may have a descriptor
pub descriptor_limit-positive : (limits : Limits) → 0 < descriptor_limit limits
descriptor_limit-positive limits = grind (arith, common_steps)

-- a process has 256 descriptors at most
pub descriptor_limit-le : (limits : Limits) → descriptor_limit limits ≤ 256
descriptor_limit-le limits = grind (arith, common_steps)
