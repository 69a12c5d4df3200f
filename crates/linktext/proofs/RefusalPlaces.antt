-- How far the place of a text's refusal can go: a line that is refused is one of the text's, and a text has no more lines than bytes.
use Prim.Native.Nat.{ℕ, suc, ◌+◌, ◌≤◌}
use mathlib.Core.List.{List, [], ◌∷◌}
use native.Mathlib.Omega.{arith}
use lib.Dec.{ltb, leb, eqb}
use lib.ListN.{length}
use borrow.Author.Tests.{ltb-false}
use Rattle.std.specs.Prelude.{Ok, Err}
use Rattle.rules.specs.declared.Link.{Link}
use Rattle.rules.specs.declared.Limits.{Limits}
use Rattle.rules.specs.declared.Refusal.TheVariants.{OverLimit}
use Rattle.rules.specs.Checks.{check_links}
use Rattle.rules.specs.Entry.{verdict_of}
use Rattle.rules.proofs.Tests.{by_cond}
use Rattle.rules.proofs.RefusalPlaces.{Below, then_Below, check_Below}
use Rattle.linktext.specs.declared.LineRead.{LineRead}
use Rattle.linktext.specs.declared.LineRead.TheVariants.{Skip, Reads, Faulty}
use Rattle.linktext.specs.Lines.{lf, read_of_line}
use Rattle.linktext.specs.Texts.{onto, lines_of, TextRead, and_link, take_line, text_read_from, text_in}
use Rattle.linktext.specs.TextNetworks.{fault_of_text, links_of_text, fault_of_network}

lines_Below : (b most n i : ℕ) (ls : List (List ℕ)) → i + length ls ≤ b → Below b (fault_of_text (text_read_from most n i ls))
unfolding text_read_from
lines_Below b most n i [] h = tt
lines_Below b most n i (l ∷ ls) h = go (read_of_line l) (λ m. lines_Below b most m (suc i) ls (omega arith))
  where
    with_link_lem : (k : Link) (x : TextRead) → Below b (fault_of_text x) → Below b (fault_of_text (and_link k x))
    with_link_lem k (Ok ks) f = tt
    with_link_lem k (Err why) f = f

    go : (r : LineRead) → ((m : ℕ) → Below b (fault_of_text (text_read_from most m (suc i) ls)))
        → Below b (fault_of_text (take_line most n i (λ m. text_read_from most m (suc i) ls) r))
    go Skip rest = rest n
    go (Reads k) rest =
        by_cond (λ (x : TextRead). Below b (fault_of_text x)) (leb most n) (Err OverLimit) _ (λ e. omega arith)
        (λ e. with_link_lem k (text_read_from most (suc n) (suc i) ls) (rest (suc n)))
    go (Faulty why) rest = omega arith

lines_few : (t : List ℕ) → length (lines_of t) ≤ length t
unfolding lines_of
lines_few [] = omega arith
lines_few (c ∷ t) =
    by_cond (λ (ls : List (List ℕ)). length ls ≤ suc (length t)) (eqb c lf) _ _ (λ e. omega (arith, lines_few t)) (λ e. more (lines_of t) (lines_few t))
  where
    more : (ls : List (List ℕ)) → length ls ≤ length t → length (onto c ls) ≤ suc (length t)
    more [] h = omega arith
    more (l ∷ ls) h = omega arith

pub text-Below : (b : ℕ) (limits : Limits) (t : List ℕ) → limits.text + 1 ≤ b → Below b (fault_of_text (text_in limits t))
unfolding text_in
text-Below b limits t h =
    by_cond (λ (x : TextRead). Below b (fault_of_text x)) (ltb limits.text (length t)) (Err OverLimit) _ (λ e. omega arith)
    (λ e. lines_Below b limits.links 0 1 (lines_of t) (omega (arith, lines_few t, ltb-false limits.text (length t) e)))

pub network_Below : (b : ℕ) (limits : Limits) (t : List ℕ) → limits.text + 1 ≤ b → limits.links ≤ b → Below b (fault_of_network limits t)
unfolding fault_of_network
network_Below b limits t h k =
    then_Below b (fault_of_text (text_in limits t)) (verdict_of (check_links limits (links_of_text limits t))) (text-Below b limits t h)
    (λ e. check_Below b limits (links_of_text limits t) (omega arith) k)
