-- The work on an accepted question, step by step: what was begun is ready for the guess and for the phases, what they leave for the
-- election, and what agrees with it and has its next hops is the stable table.
--
--   Asked ws us        what is known of the link words ws and the ASes us of a question
use Prim.Native.Nat.{ℕ, ◌-◌, ◌*◌, ◌≤◌}
use mathlib.Core.Path.{◌≡◌, refl, ◌∙◌, ap}
use mathlib.Core.Bool.{true}
use mathlib.Core.List.{List, ◌∷◌, ◌++◌}
use native.Mathlib.Omega.{arith}
use lib.Dec.{eqb}
use lib.ListN.{length, get_or, take, drop}
use lib.Seq.{take_at}
use Rattle.std.proofs.Math.Seq.{take-length}
use Rattle.std.specs.Prelude.{Ok}
use Rattle.rules.specs.declared.Link.{Link}
use Rattle.rules.specs.Lists.{In, any_of}
use Rattle.rules.specs.Network.{links_of, ases_of}
use Rattle.rules.specs.Checks.{base_limits, check_words, needed_room}
use Rattle.rules.specs.Stable.{table_of}
use Rattle.rules.proofs.ListLaws.{member_is}
use Rattle.rules.proofs.AcceptedLinks.{check_words-Accepted}
use Rattle.network.proofs.PrefixLaws.{count}
use Rattle.offers.specs.Lines.{fresh_lines}
use Rattle.offers.specs.Ways.{places_of}
use Rattle.offers.specs.Placing.{Placing}
use Rattle.offers.specs.Steps.{Placed}
use Rattle.offers.specs.Passes.{offers_to}
use Rattle.offers.specs.Electing.{Electing}
use Rattle.offers.proofs.PlaceLaws.{places_length}
use Rattle.offers.proofs.FreshLaws.{LaidTo, laid_long, laid_number}
use Rattle.table.specs.declared.asked.Question.{Question}
use Rattle.table.specs.Entries.{Filled}
use Rattle.table.specs.Guess.{Guessing, Guessed}
use Rattle.table.specs.Phases.{Ready, Phased}
use Rattle.table.specs.Steps.{Hopped, Tried, Agreed}
use Rattle.table.proofs.LineLaws.{Lined-more, Lined-Framed}
use Rattle.table.proofs.StepLaws.{begun_Lined, begun_short}
use Rattle.table.proofs.WholeLaws.{phased_Ready, phased_Framed, phased_Agreed}
use Rattle.table.proofs.AgreedLaws.{agreed_Filled}

-- A question ---------------------------------------------------------------------------------------------------------------

pub record Asked (ws us : List ℕ) : Type 0 where
  pub whole : length ws ≡ 3 * length (links_of ws)
  pub listed : us ≡ ases_of (links_of ws)
  pub some : 1 ≤ length us
  pub most : length us ≤ 512
  pub few_links : length (links_of ws) ≤ 1536

in_some : (x : ℕ) (l : List ℕ) → In x l → 1 ≤ length l
in_some x mathlib.Core.List.[] m = elim m [ ]
in_some x (y ∷ l) m = omega arith

asked : (ws us : List ℕ) (d n : ℕ) → check_words base_limits ws ≡ Ok n → us ≡ ases_of (links_of ws) → any_of (eqb d) us ≡ true → Asked ws us
asked ws us d n a e m =
    let (whole, ok) = check_words-Accepted base_limits ws n a in
    record {
      whole = omega (arith, count ws, whole);
      listed = e;
      some = in_some d us (member_is d us m);
      most = omega (arith, ok.count, ok.few_ases, ap length e);
      few_links = ok.few_links;
    }

pub question_Asked : (q : Question) → Asked q.network.words.now q.ases.now
question_Asked q = asked q.network.words.now q.ases.now q.destination q.network.ases q.network.accepted q.listed q.member

-- What is begun ------------------------------------------------------------------------------------------------------------

pub Placed-front : (ls : List Link) (ps old : List ℕ) → ps ≡ places_of (ases_of ls) ls ++ drop (2 * length ls) old → Placed ls ps
Placed-front ls ps old e =
    ap (take (2 * length ls)) e ∙ take_at (places_of (ases_of ls) ls) (drop (2 * length ls) old) (2 * length ls) (places_length (ases_of ls) ls)

-- before anything is told
pub begun : {us : List ℕ} (d : ℕ) (old : List ℕ) {t : List ℕ} → t ≡ table_of (fresh_lines d) (take (length us) us) ++ drop (4 * length us) old
    → LaidTo (fresh_lines d) us (length us) old t
begun {us} d old e = record { count = refl; words = rw (take-length us) at e }

module _ {ws us : List ℕ} (a : Asked ws us) where
  pub asked_Placing : (ps : List ℕ) → needed_room (length (links_of ws)) (length us) ≤ length ps → Placing ws us (length us) ps
  asked_Placing ps h =
      record {
        list = rw (take-length us) a.listed;
        count = ap length a.listed;
        few = omega (arith, a.most);
        room = omega (arith, h);
      }

  module _ (d : ℕ) {old t : List ℕ} (room : 4 * length us ≤ length old) (b : LaidTo (fresh_lines d) us (length us) old t) where
    long : length t ≡ length old
    long = laid_long b room

    pub begun_Guessing : Guessing (length us) t
    begun_Guessing = record { room = omega (arith, long); few = omega (arith, a.most); low = λ i h. omega (arith, begun_short d b i h, a.some) }

    pub begun_Tried : {u ps : List ℕ} → Guessed (length us) t u → Placed (links_of ws) ps → Tried (links_of ws) us old u ps
    begun_Tried g p = record { lined = Lined-Framed (begun_Lined d b room) g.framed; low = g.low; placed = p }

    pub begun_Ready : (ps : List ℕ) → Placed (links_of ws) ps → Ready ws ps (length us - 1) t
    begun_Ready ps placed =
        let same = ap length a.listed in
        record {
          whole = a.whole;
          placed = placed;
          room = omega (arith, long, same);
          short = λ i h. omega (arith, begun_short d b i (omega (arith, same)));
          fits = omega (arith, a.most, a.some);
        }

  -- the election after a guess
  pub Tried-Electing : {old t ps : List ℕ} → 4 * length us ≤ length old → Tried (links_of ws) us old t ps → Electing (links_of ws) ps t (length us)
  Tried-Electing room l =
      record {
        placed = l.placed;
        count = ap length a.listed;
        numbers = λ i h. l.lined.number i h ∙ ap (λ (us : List ℕ). get_or us i 0) a.listed;
        wide = record { short = λ i h. omega (arith, l.low i h, a.most) };
        room = omega (arith, l.lined.long);
      }

-- what was tried is a beginning of its own, from which the choice goes on
module _ {ls : List Link} {us old t ps : List ℕ} (l : Tried ls us old t ps) where
  pub tried_Agreed : {d : ℕ} {u best : List ℕ} → Agreed ls d us t u best → Agreed ls d us old u best
  tried_Agreed a = record { lined = Lined-more l.lined a.lined; beyond = a.beyond; elected = a.elected; agrees = a.agrees }

-- What is settled ----------------------------------------------------------------------------------------------------------

module _ (ws us : List ℕ) (d : ℕ) (old first t ps : List ℕ) (listed : us ≡ ases_of (links_of ws)) where
  pub settled_Electing : Asked ws us → 4 * length us ≤ length old → Placed (links_of ws) ps → LaidTo (fresh_lines d) us (length us) old first
      → Phased (links_of ws) ps (length us - 1) first 4 t → Electing (links_of ws) ps t (length us)
  settled_Electing =
      rw listed
      (λ a room p b l.
      let r = begun_Ready a d room b ps p in
      let s = phased_Ready ws d ps r l in
      record {
        placed = p;
        count = refl;
        numbers = λ i h. (phased_Framed ws d ps r l).number i ∙ laid_number b i h;
        wide = record { short = λ i h. omega (arith, s.short i h, s.fits) };
        room = s.room;
      })

  pub settled_Agreed : (best beyond : List ℕ) → Asked ws us → 4 * length us ≤ length old → Placed (links_of ws) ps
      → LaidTo (fresh_lines d) us (length us) old first → Phased (links_of ws) ps (length us - 1) first 4 t
      → best ≡ table_of (offers_to (links_of ws) t (length us)) (ases_of (links_of ws)) ++ beyond → Agreed (links_of ws) d us old t best
  settled_Agreed best beyond =
      rw listed (λ a room p b l elected. phased_Agreed ws d ps beyond b (begun_Ready a d room b ps p) l elected room)

pub lines_Filled : (ws us : List ℕ) (d : ℕ) {old t best new : List ℕ} → us ≡ ases_of (links_of ws) → 4 * length us ≤ length old
    → Agreed (links_of ws) d us old t best → Hopped d best (length us) t new → Filled (links_of ws) d old new
lines_Filled ws us d listed = rw listed (λ room a hopped. agreed_Filled (links_of ws) d room a hopped)
