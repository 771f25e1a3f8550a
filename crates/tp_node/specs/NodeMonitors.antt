-- The invariant of a node's monitor.
use Rattle.std.specs.Prelude.{◌≡◌, Some}
use Rattle.{tp_base.specs.declared.PoolId.PoolId, tp_monitor.specs.Monitors.{Monitored, IsMonitor}}

-- the number of the one pool that is monitored
abbrev pub the_pool : PoolId
the_pool = record { 0 = 0 }

-- The monitor monitors that pool.
pub record IsNodeMonitor (m : Monitored) : Type 0 where
  pub monitored : m.pool ≡ Some the_pool
  pub kept : IsMonitor m
