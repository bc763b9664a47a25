-- The next call by steps of a period is the one by a division.
use Rattle.std.proofs.Common.{◌≡◌, ℕ, zero, suc, ◌+◌, ◌-◌, ◌*◌, ◌/◌, ◌%◌, ◌<◌, ◌≤◌, min, Bool, true, false, cond, leb, refl, arith}
use Rattle.std.proofs.Math.Nat.{mul-le-mul_right, le_of_mul-le-mul_right, lt_of_mul-lt-mul_right}
use Rattle.std.proofs.lemmas.Bool.Decides.{nat_tests}
use Rattle.std.specs.Int.{div_ceil}
use Rattle.exec_msg.specs.Timer.{TimerState, first_reached, next_call, IsNextCall}

-- the least of time, time + period, time + 2 * period, .. that is at or after now
pub record IsLeastFrom (time period now found : ℕ) : Type 0 where
  pub steps : ℕ
  pub reached : found ≡ time + steps * period
  pub after : now ≤ found
  pub least : (k : ℕ) → now ≤ time + k * period → found ≤ time + k * period

-- there is one such time at most
pub same_least : {time period now a b : ℕ} → IsLeastFrom time period now a → IsLeastFrom time period now b → a ≡ b
same_least {time} {period} {now} {a} {b} p q =
    let e = p.reached in
    let f = q.reached in
    let x = p.after in
    let y = q.after in
    let low = p.least q.steps (omega arith) in
    let high = q.least p.steps (omega arith) in
    omega arith

pub here_least : (time period now : ℕ) → now ≤ time → IsLeastFrom time period now time
here_least time period now h = record {
  steps = 0;
  reached = omega arith;
  after = h;
  least = λ k _. omega arith;
}

one_more : (time period now found : ℕ) → time < now → IsLeastFrom (time + period) period now found → IsLeastFrom time period now found
one_more time period now found before rest =
    let e = rest.reached in
    record {
      steps = suc rest.steps;
      reached = omega arith;
      after = rest.after;
      least = λ k h. least_at k h;
    }
  where
    least_at : (k : ℕ) → now ≤ time + k * period → found ≤ time + k * period
    least_at zero h = absurd (omega arith)
    least_at (suc k) h = omega (arith, rest.least k (omega arith))

step_least : (b : Bool) (more time period now : ℕ) → leb now time ≡ b → (now ≤ (time + period) + more * period → IsLeastFrom (time + period) period now (first_reached more (time + period) period now)) → now ≤ time + suc more * period → IsLeastFrom time period now (cond b time (first_reached more (time + period) period now))
step_least true more time period now e rest h = here_least time period now (grind (arith, nat_tests))
step_least false more time period now e rest h =
    let before : time < now = grind (arith, nat_tests) in
    one_more time period now _ before (rest (omega arith))

-- steps of a period find it
pub first_reached_least : (more time period now : ℕ) → now ≤ time + more * period → IsLeastFrom time period now (first_reached more time period now)
first_reached_least zero time period now h = here_least time period now (omega arith)
first_reached_least (suc more) time period now h =
    step_least (leb now time) more time period now refl (first_reached_least more (time + period) period now) h

quotient_reaches : (quotient remainder period : ℕ) → remainder < period → period * quotient + remainder ≤ (quotient + min 1 remainder) * period
quotient_reaches quotient zero period h = omega arith
quotient_reaches quotient (suc remainder) period h =
    let e : min 1 (suc remainder) ≡ 1 = omega arith in
    rw e (omega arith)

quotient_least : (quotient remainder period k : ℕ) → remainder < period → period * quotient + remainder ≤ k * period → quotient + min 1 remainder ≤ k
quotient_least quotient zero period k h fits = omega (arith, le_of_mul-le-mul_right {m = quotient} {n = k} {k = period} (omega arith) (omega arith))
quotient_least quotient (suc remainder) period k h fits =
    omega (arith, lt_of_mul-lt-mul_right period {m = quotient} {n = k} (omega arith))

-- a division finds it
pub division_least : (time period now : ℕ) → 0 < period → time ≤ now → IsLeastFrom time period now (time + div_ceil (now - time) period * period)
division_least time period now positive before =
    let left = now - time in
    let whole : period * (left / period) + left % period ≡ left = omega arith in
    let below : left % period < period = omega arith in
    let reaches = quotient_reaches (left / period) (left % period) period below in
    record {
      steps = div_ceil left period;
      reached = refl;
      after = omega arith;
      least = λ k h. omega (arith, mul-le-mul_right period (quotient_least (left / period) (left % period) period k below (omega arith)));
    }

quotient_within : (quotient remainder period : ℕ) → (quotient + min 1 remainder) * period ≤ (period * quotient + remainder) + period
quotient_within quotient zero period = omega arith
quotient_within quotient (suc remainder) period =
    let e : min 1 (suc remainder) ≡ 1 = omega arith in
    rw e (omega arith)

-- and it goes no whole period beyond now
pub division_bound : (time period now : ℕ) → 0 < period → time ≤ now → time + div_ceil (now - time) period * period ≤ now + period
division_bound time period now positive before =
    let left = now - time in
    let whole : period * (left / period) + left % period ≡ left = omega arith in
    omega (arith, quotient_within (left / period) (left % period) period)

-- what comes first of the times from one period on is a timer's next call
pub IsNextCall-from_least : (timer : TimerState) (now found : ℕ) → IsLeastFrom (timer.next + timer.period) timer.period now found → IsNextCall timer now found
IsNextCall-from_least timer now found p =
    let e = p.reached in
    record {
      steps = suc p.steps;
      later = omega arith;
      reached = omega arith;
      after = p.after;
      least = least_at;
    }
  where
    least_at : (k : ℕ) → 1 ≤ k → now ≤ timer.next + k * timer.period → found ≤ timer.next + k * timer.period
    least_at zero h fits = absurd (omega arith)
    least_at (suc k) h fits = omega (arith, p.least k (omega arith))

-- the definition finds the least
pub next_call_least : (timer : TimerState) (now : ℕ) → 1 ≤ timer.period → IsLeastFrom (timer.next + timer.period) timer.period now (next_call timer now)
next_call_least timer now positive =
    let late = now - timer.next in
    let whole : timer.period * (late / timer.period) + late % timer.period ≡ late = omega arith in
    let below : late % timer.period < timer.period = omega arith in
    first_reached_least (late / timer.period) (timer.next + timer.period) timer.period now (omega arith)

-- the definition's next call is the least of its times
pub next_call-is : (timer : TimerState) (now : ℕ) → 1 ≤ timer.period → IsNextCall timer now (next_call timer now)
next_call-is timer now positive = IsNextCall-from_least timer now _ (next_call_least timer now positive)

-- and after the time of the call before it
pub next_call-later : (timer : TimerState) (now : ℕ) → 1 ≤ timer.period → timer.next < next_call timer now
next_call-later timer now positive =
    let found = next_call_least timer now positive in
    let e = found.reached in
    omega arith
