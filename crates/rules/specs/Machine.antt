-- The message machine.
--
--   Waiting            a pair that waits on a direction, or none
--   State              the lines, and for each direction the pair held and what waits
--   send net u p w     u sends the pair p
--   fresh net d        the fresh start
--   deliver net d i p s   the pair p, which waits on direction i, is delivered
--   Run                a state with the deliveries made and the idle choices counted
--   chosen net d choices r   the run r after a list of choices
--   lowest net w       the lowest waiting direction, or quiet
--   further net d n r  the run r after at most n further deliveries, lowest direction first
--   run_of net d choices n   a whole run
--   Quiet net s        nothing waits
use Rattle.std.specs.Prelude.{ℕ, zero, suc, ◌≡◌, Bool, true, false, cond, ◌&&◌, List, [], ◌∷◌, eqb}
use Rattle.rules.specs.declared.TypeLength.{TypeLength}
use Rattle.rules.specs.Pairs.{origin_of, unreachable_of, same_as}
use Rattle.rules.specs.Lists.{In, any_of, changed}
use Rattle.rules.specs.Offers.{Arc, best}
use Rattle.rules.specs.Stable.{Routing, own, lost, line_of}

pub data Waiting : Type 0 where
  nothing : Waiting
  waits : TypeLength → Waiting

-- 'Each direction holds the pair last delivered and at most one waiting pair'
pub record State : Type 0 where
  pub lines : Routing
  pub held : ℕ → TypeLength
  pub waiting : ℕ → Waiting

-- sending puts the pair on every direction out of u, and 'replaces one that waits'
unfoldable pub out_of : List Arc → ℕ → ℕ → Bool
out_of net u i = any_of (λ a. eqb a.direction i && eqb a.neighbour u) net

unfoldable pub send : List Arc → ℕ → TypeLength → (ℕ → Waiting) → ℕ → Waiting
send net u p waiting i = cond (out_of net u i) (waits p) (waiting i)

-- 'Fresh start: all held pairs unreachable, destination origin, others unreachable, origin waiting on each direction out of the
-- destination'
unfoldable pub fresh : List Arc → ℕ → State
fresh net d =
    record {
      lines = changed lost d (own d);
      held = λ i. unreachable_of;
      waiting = send net d origin_of (λ i. nothing);
    }

-- 'the receiver elects anew over all held pairs by the rules above. If its type or length changed it sends the new pair to every
-- neighbour, the sender included. A changed next hop alone sends nothing. The destination never changes'
unfoldable pub elected : List Arc → ℕ → ℕ → State → State
elected net d u s =
    let o = best (λ a. s.held a.direction) u net in
    cond (eqb u d) s
    (record {
      lines = changed s.lines u (line_of o);
      held = s.held;
      waiting = cond (same_as (s.lines u).pair o.pair) s.waiting (send net u o.pair s.waiting);
    })

-- the receiver over direction i
unfoldable pub receiver : List Arc → ℕ → ℕ
receiver [] i = 0
receiver (a ∷ net) i = cond (eqb a.direction i) a.hearer (receiver net i)

-- 'Delivery moves the waiting pair to held; the receiver elects anew'
unfoldable pub deliver : List Arc → ℕ → ℕ → TypeLength → State → State
deliver net d i p s =
    elected net d (receiver net i)
    (record { lines = s.lines; held = changed s.held i p; waiting = changed s.waiting i nothing })

pub record Run : Type 0 where
  pub state : State
  pub made : ℕ
  pub idle : ℕ

unfoldable pub started : List Arc → ℕ → Run
started net d = record { state = fresh net d; made = 0; idle = 0 }

abbrev pub delivered : List Arc → ℕ → ℕ → TypeLength → Run → Run
delivered net d i p r = record { state = deliver net d i p r.state; made = suc r.made; idle = r.idle }

-- 'Choosing one with nothing waiting is idle: counted, no effect'
abbrev pub taken : List Arc → ℕ → ℕ → Run → Waiting → Run
taken net d i r nothing = record { state = r.state; made = r.made; idle = suc r.idle }
taken net d i r (waits p) = delivered net d i p r

unfoldable pub chosen : List Arc → ℕ → List ℕ → Run → Run
chosen net d [] r = r
chosen net d (i ∷ choices) r = chosen net d choices (taken net d i r (r.state.waiting i))

-- the lowest direction on which something waits, and what
pub data Lowest : Type 0 where
  quiet : Lowest
  on : ℕ → TypeLength → Lowest

abbrev pub lowest_or : ℕ → Lowest → Waiting → Lowest
lowest_or i rest nothing = rest
lowest_or i rest (waits p) = on i p

unfoldable pub lowest : List Arc → (ℕ → Waiting) → Lowest
lowest [] waiting = quiet
lowest (a ∷ net) waiting = lowest_or a.direction (lowest net waiting) (waiting a.direction)

-- 'After the list, the lowest waiting direction is delivered until nothing waits or the given number of further deliveries is used'
abbrev pub onward : List Arc → ℕ → (Run → Run) → Run → Lowest → Run
onward net d next r quiet = r
onward net d next r (on i p) = next (delivered net d i p r)

unfoldable pub further : List Arc → ℕ → ℕ → Run → Run
further net d zero r = r
further net d (suc n) r = onward net d (further net d n) r (lowest net r.state.waiting)

-- 'A run takes a list of directions'
unfoldable pub run_of : List Arc → ℕ → List ℕ → ℕ → Run
run_of net d choices n = further net d n (chosen net d choices (started net d))

-- 'Quiet means nothing waits'
abbrev pub is_quiet : Lowest → Bool
is_quiet quiet = true
is_quiet (on i p) = false

abbrev pub Quiet : List Arc → State → Type 0
Quiet net s = (a : Arc) → In a net → s.waiting a.direction ≡ nothing
