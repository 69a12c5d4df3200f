-- What the steps of a delivery say of table and room.
--
--   NoneWaits m r i e      nothing waits on the directions from i on before e; FirstWaits m r i e k   on k, but on none before it
--   FirstBetween m r i e o o is the first of these directions on which something waits
--   IdleTo m r cs i e      nothing waits on the directions of the choices from i on before e; FirstDelivery m r cs i o   o is the first choice from i on on whose direction something waits
--   Sent m u w j r r'      r' is r with the word w on the directions that the AS at place u tells over and whose partners are below j
--   held_over m r          what each arc's neighbour told, as the room holds it
--   Heard ws m r u k o o'  of the offer o and what is held on direction k, o' is the better for the AS at place u
--   Took m t r u old o t' r'  the AS at place u has the line of the offer o, and has told of it unless its pair was the same
--   held_offer m t r k w   what is offered over direction k, which is w, with the pair that the room holds there
--   Amended ws m k t r u t' r'  the line of the AS at place u is the one elected anew, where direction k holds another pair than before
--   Delivered ws m d k t r t' r'  what waited on direction k was delivered, where the AS at place d is the destination
use Rattle.std.specs.Prelude.{ℕ, ◌+◌, ◌*◌, ◌≤◌, ◌<◌, ◌≡◌, ◌≢◌, Bool, true, false, List, Option, MatchOption, length, get_or}
use Rattle.rules.specs.declared.TypeLength.{TypeLength}
use Rattle.rules.specs.Pairs.{extension, same_as}
use Rattle.rules.specs.Offers.{Arc, choose, heard}
use Rattle.rules.specs.Network.{links_of}
use Rattle.rules.specs.Stable.{line_of}
use Rattle.rules.specs.Machine.{State, waits, elected, deliver}
use Rattle.rules.proofs.MachineLaws.{line_over, Sound}
use Rattle.offers.specs.declared.Offered.{Offered}
use Rattle.offers.specs.declared.Way.{Way}
use Rattle.offers.specs.Lines.{number_word, with_line}
use Rattle.offers.specs.Ways.{partner, arc_at}
use Rattle.offers.specs.Passes.{as_offer}
use Rattle.offers.specs.Steps.{ranked_offer}
use Rattle.machine.specs.Room.{pair_word, pair_of, place_word, held_word, waiting_word, net_of, as_at, Holds}

pub record NoneWaits (m : ℕ) (r : List ℕ) (i e : ℕ) : Type 0 where
  pub none : (j : ℕ) → i ≤ j → j < e → j < 2 * m → waiting_word m r j ≡ 0

pub record FirstWaits (m : ℕ) (r : List ℕ) (i e k : ℕ) : Type 0 where
  pub after : i ≤ k
  pub before : k < e
  pub direction : k < 2 * m
  pub none : (j : ℕ) → i ≤ j → j < k → waiting_word m r j ≡ 0
  pub some : waiting_word m r k ≢ 0

abbrev pub FirstBetween : ℕ → List ℕ → ℕ → ℕ → Option ℕ → Type 0
FirstBetween m r i e o = MatchOption o (NoneWaits m r i e) (FirstWaits m r i e)

abbrev pub IdleTo : ℕ → List ℕ → List ℕ → ℕ → ℕ → Type 0
IdleTo m r cs i e = (j : ℕ) → i ≤ j → j < e → waiting_word m r (get_or cs j 0) ≡ 0

pub record FirstDelivers (m : ℕ) (r cs : List ℕ) (i n : ℕ) : Type 0 where
  pub after : i ≤ n
  pub before : n < length cs
  pub some : waiting_word m r (get_or cs n 0) ≢ 0
  pub idle : IdleTo m r cs i n

abbrev pub FirstDelivery : ℕ → List ℕ → List ℕ → ℕ → Option ℕ → Type 0
FirstDelivery m r cs i o = MatchOption o (IdleTo m r cs i (length cs)) (FirstDelivers m r cs i)

pub record Sent (m u w j : ℕ) (r r' : List ℕ) : Type 0 where
  pub long : length r' ≡ length r
  pub below : (i : ℕ) → i < 4 * m → get_or r' i 0 ≡ get_or r i 0
  pub above : (i : ℕ) → 6 * m ≤ i → get_or r' i 0 ≡ get_or r i 0
  pub on : (k : ℕ) → partner k < j → place_word r k ≡ u → waiting_word m r' k ≡ w
  pub off : (k : ℕ) → (partner k < j → place_word r k ≢ u) → waiting_word m r' k ≡ waiting_word m r k

abbrev pub held_over : ℕ → List ℕ → Arc → TypeLength
held_over m r a = pair_of (held_word m r a.direction)

abbrev pub Heard : List ℕ → ℕ → List ℕ → ℕ → ℕ → Offered → Offered → Type 0
Heard ws m r u k o o' = as_offer o' ≡ choose (as_offer o) (heard (held_over m r) (as_at ws u) (arc_at (links_of ws) k))

abbrev pub ToldUnless : Bool → ℕ → ℕ → ℕ → List ℕ → List ℕ → Type 0
ToldUnless true m u w r r' = r' ≡ r
ToldUnless false m u w r r' = Sent m u w (2 * m) r r'

pub record Took (m : ℕ) (t r : List ℕ) (u : ℕ) (old : TypeLength) (o : Offered) (t' r' : List ℕ) : Type 0 where
  pub line : t' ≡ with_line t u (line_of (as_offer o))
  pub told : ToldUnless (same_as old o.pair) m u (pair_word o.pair) r r'

abbrev pub held_offer : ℕ → List ℕ → List ℕ → ℕ → Way → Offered
held_offer m t r k w = ranked_offer (extension w.kind w.cost (pair_of (held_word m r k))) (number_word t w.neighbour)

-- h: the pairs over which the line was elected
pub record Amended (ws : List ℕ) (m k : ℕ) (t r : List ℕ) (u : ℕ) (t' r' : List ℕ) : Type 0 where
  pub after : (rest : List ℕ) (s : State) (h : ℕ → TypeLength) (d b : ℕ) → Holds ws m rest s t r
      → s.lines (as_at ws u) ≡ line_over (net_of ws) h (as_at ws u) → ((j : ℕ) → j ≢ k → s.held j ≡ h j)
      → ((j : ℕ) → (s.held j).length ≤ b) → b + 1 < 268435456 → as_at ws u ≢ d
      → Holds ws m rest (elected (net_of ws) d (as_at ws u) s) t' r'

pub record Delivered (ws : List ℕ) (m d k : ℕ) (t r t' r' : List ℕ) : Type 0 where
  pub after : (rest : List ℕ) (s : State) (p : TypeLength) (b : ℕ) → Holds ws m rest s t r → Sound (net_of ws) (as_at ws d) s → s.waiting k ≡ waits p
      → ((j : ℕ) → (s.held j).length ≤ b) → p.length ≤ b → b + 1 < 268435456
      → Holds ws m rest (deliver (net_of ws) (as_at ws d) k p s) t' r'
