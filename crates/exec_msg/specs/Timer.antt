-- Timers: when one is due, and when its next call comes.
use Rattle.std.specs.Prelude.{◌≡◌, ℕ, zero, suc, ◌+◌, ◌-◌, ◌*◌, ◌/◌, ◌≤◌, ◌^◌, Bool, nat_le, if◌then◌else◌}
use Rattle.exec_msg.specs.Numbers.{Moment, Ticks}

-- a timer: the time of its next call and its period, in ticks
pub record TimerState : Type 0 where
  pub next : Ticks
  pub period : Ticks

-- a period that a timer may have
abbrev pub IsPeriod : Ticks → Type 0
IsPeriod period = (1 ≤ period) × (period ≤ 2 ^ 62)

-- a timer is due where its next call is at or before now
abbrev pub is_due : TimerState → Moment → Bool
is_due timer now = nat_le timer.next now

-- the first of time, time + period, time + 2 * period, .. that is at or after now, with so many steps at most
abbrev pub first_reached : ℕ → Ticks → Ticks → Moment → Ticks
first_reached zero time period now = time
first_reached (suc more) time period now = if nat_le now time then time else first_reached more (time + period) period now

-- when the next call of a timer comes after its call at now: one period on, and from there by whole
-- periods to the first such time at or after now, which takes no more of them than now is periods late
abbrev pub next_call : TimerState → Moment → Ticks
next_call timer now = first_reached ((now - timer.next) / timer.period) (timer.next + timer.period) timer.period now

-- the timer after its call at now
abbrev pub after_call : TimerState → Moment → TimerState
after_call timer now = record timer { next = next_call timer now }

-- the least of next + k * period, k at least 1, that is at or after now
pub record IsNextCall (timer : TimerState) (now : Moment) (time : Ticks) : Type 0 where
  pub steps : ℕ
  pub later : 1 ≤ steps
  pub reached : time ≡ timer.next + steps * timer.period
  pub after : now ≤ time
  pub least : (k : ℕ) → 1 ≤ k → now ≤ timer.next + k * timer.period → time ≤ timer.next + k * timer.period
