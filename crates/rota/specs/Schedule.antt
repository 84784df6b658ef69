-- What a rota means, and the law that every rota keeps.
use Rattle.std.specs.Prelude.{◌≡◌, ℕ, ◌+◌, ◌<◌, ◌≤◌}
use Rattle.sets.specs.Sets.{phases}

-- a leader schedule: how many hosts take part, the window, and the owner (leader) of each phase
pub record Schedule : Type 0 where
  pub hosts : ℕ
  pub window : ℕ
  pub owner : ℕ → ℕ

-- host h owns some phase among the window's number of phases from k on
pub record Serves (s : Schedule) (h k : ℕ) : Type 0 where
  pub phase : ℕ
  pub from : k ≤ phase
  pub before : phase < k + s.window
  pub owned : s.owner phase ≡ h

-- every host is served in every window of phases that there are; owners are hosts; beyond the last phase the owner is 0
pub record Sound (s : Schedule) : Type 0 where
  pub served : (h k : ℕ) → h < s.hosts → k + s.window ≤ phases → Serves s h k
  pub inside : (k : ℕ) → 0 < s.hosts → s.owner k < s.hosts
  pub beyond : (k : ℕ) → phases ≤ k → s.owner k ≡ 0
