-- For every list of links and each AS in it as destination exactly one list of lines passes the judge: the stable routing's. Followed
-- from any AS that it marks reachable, it arrives as it says. A passing sheet's routing is stable, and only one is.
use Prim.Native.Nat.{ℕ, ◌-◌, ◌≤◌}
use mathlib.Core.Path.{◌≡◌, refl, sym, ◌∙◌, ap, subst, fun_ext}
use mathlib.Core.Logic.{⊎_elim}
use mathlib.Core.List.{List}
use native.Mathlib.Omega.{arith}
use native.Mathlib.Decide.{ℕ_discrete}
use lib.ListN.{length}
use Rattle.std.specs.Prelude.{Ok}
use Rattle.rules.specs.declared.Link.{Link}
use Rattle.rules.specs.Lists.{In}
use Rattle.rules.specs.Offers.{Arc, none}
use Rattle.rules.specs.Network.{ases_of, arcs_of}
use Rattle.rules.specs.Stable.{Routing, lost, line_of, told, due, Stable}
use Rattle.rules.specs.Solve.{stable_of}
use Rattle.rules.specs.Walks.{Followed}
use Rattle.rules.specs.Judge.{Entry, entries_for, routing_of, standing, best_offers, judge}
use Rattle.rules.proofs.Faces.{typ, len}
use Rattle.rules.proofs.ListLaws.{In-or_not}
use Rattle.rules.proofs.BestLaws.{best_out}
use Rattle.rules.proofs.StableFaces.{due_off, stable_Settled}
use Rattle.rules.proofs.Exists.{stable_of-Stable, Stable-only}
use Rattle.rules.proofs.WalkLaws.{followed, length_below}
use Rattle.rules.proofs.NetworkLaws.{ases_Distinct}
use Rattle.rules.proofs.ArcLaws.{arcs_ends, arcs_cost, arcs_positive}
use Rattle.rules.proofs.LineLaws.{numbers, routing_out, entries_In, entries_only, entries_numbers, printed_looked, looked_printed}
use Rattle.rules.proofs.VerdictLaws.{both_pass}
use Rattle.rules.proofs.JudgeLaws.{Standing, standing_numbers, Standing-passes, best_lines, best_passes}

module _ (ls : List Link) (d : ℕ) (has : In d (ases_of ls)) where
  abbrev net : List Arc
  net = arcs_of ls

  abbrev us : List ℕ
  us = ases_of ls

  -- what is due at a number that is no AS of the network
  due_out : (R : Routing) (u : ℕ) → (In u us → ⊥) → due net d R u ≡ lost u
  unfolding none lost
  due_out R u out =
      due_off net d R u (λ e. out (subst (λ (x : ℕ). In x us) (sym e) has))
      ∙ ap line_of (best_out (told R) u net (λ a m e. out (subst (λ (x : ℕ). In x us) e (arcs_ends ls a m).0)))

  module _ (bound : ℕ) (es : List Entry) (passes : judge ls d bound es ≡ Ok tt) where
    passing : (standing bound us es ≡ Ok tt) × (best_offers net d es ≡ Ok tt)
    unfolding judge
    passing = both_pass (standing bound us es) (best_offers net d es) passes

    named : numbers es ≡ us
    named = standing_numbers bound 0 us es passing.0

    lines : entries_for (routing_of es) us ≡ es
    lines = rw (← named) (looked_printed es (rw named (ases_Distinct ls)))

    pub passing_Stable : Stable net d (routing_of es)
    passing_Stable u = ⊎_elim inside outside (In-or_not u us)
      where
        inside : In u us → routing_of es u ≡ due net d (routing_of es) u
        inside m =
            best_lines net d (routing_of es) 0 es passing.1 (record { number = u; line = routing_of es u })
            (subst (In (record { number = u; line = routing_of es u })) lines (entries_In (routing_of es) us u m))

        outside : (In u us → ⊥) → routing_of es u ≡ due net d (routing_of es) u
        outside out = routing_out es u (λ m. out (subst (In u) named m)) ∙ sym (due_out (routing_of es) u out)

    -- the lines that pass are the stable routing's
    pub passing_only : es ≡ entries_for (stable_of net d) us
    passing_only =
        sym lines ∙ ap (λ (R : Routing). entries_for R us) (Stable-only net (arcs_positive ls) d (routing_of es) passing_Stable)

    -- followed from any AS that is marked reachable the sheet arrives, visits no AS twice, takes a permitted walk of the printed length
    pub sheet_Followed : (u : ℕ) → typ (routing_of es) u ≤ 3 → Followed (λ a. In a net) d (routing_of es) u
    sheet_Followed =
        followed (λ a. In a net) (arcs_positive ls) d (routing_of es) (stable_Settled net d (routing_of es) passing_Stable)

  -- the stable routing's lines pass, where the bound lets lengths below the number of ASes stand
  pub stable_passes : (bound : ℕ) → length us - 1 ≤ bound → judge ls d bound (entries_for (stable_of net d) us) ≡ Ok tt
  unfolding judge
  stable_passes bound room = rw (Standing-passes bound 0 S us stand) (best_passes net d (routing_of (entries_for S us)) 0 (entries_for S us) best-line)
    where
      S : Routing
      S = stable_of net d

      stand : (u : ℕ) → In u us → Standing bound u (record { number = u; line = S u })
      stand u m =
          let f = stable_Settled net d S (stable_of-Stable net d) in
          record {
            number = refl;
            low = f.marked.low u;
            high = f.marked.high u;
            bare = λ q. bare_at (ℕ_discrete u d) q;
            short = omega (arith, length_below (λ a. In a net) (arcs_positive ls) d S f us (arcs_ends ls) (arcs_cost ls) u);
          }
        where
          bare_at : Dec (u ≡ d) → typ S u ≡ 4 → len S u ≡ 0
          bare_at (yes e) q =
              let f = stable_Settled net d S (stable_of-Stable net d) in
              rw e f.marked.own_len
          bare_at (no ne) q = (stable_Settled net d S (stable_of-Stable net d)).marked.lost_len u ne q

      looked : (u : ℕ) → routing_of (entries_for S us) u ≡ S u
      looked u = ⊎_elim (printed_looked S us u) outside (In-or_not u us)
        where
          outside : (In u us → ⊥) → routing_of (entries_for S us) u ≡ S u
          outside out =
              routing_out (entries_for S us) u (λ m. out (subst (In u) (entries_numbers S us) m))
              ∙ sym (due_out S u out) ∙ sym (stable_of-Stable net d u)

      best-line : (e : Entry) → In e (entries_for S us) → e.line ≡ due net d (routing_of (entries_for S us)) e.number
      best-line e m =
          (entries_only S us e m).1 ∙ stable_of-Stable net d e.number
          ∙ ap (λ (R : Routing). due net d R e.number) (sym (fun_ext looked))

  -- exactly one list of lines passes
  pub one_sheet : (bound : ℕ) → length us - 1 ≤ bound
      → (es : List Entry) × (judge ls d bound es ≡ Ok tt) × ((fs : List Entry) → judge ls d bound fs ≡ Ok tt → fs ≡ es)
  one_sheet bound room = (entries_for (stable_of net d) us, stable_passes bound room, λ fs p. passing_only bound fs p)
