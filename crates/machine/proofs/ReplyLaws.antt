-- What a reply of the machine says of its verdict and of the run. By cases on the verdict.
--
--   Ended ws run v made idle quiet   the verdict v passes, and the run was told
use Prim.Native.Nat.{ℕ}
use mathlib.Core.Path.{◌≡◌, refl, sym, ap}
use mathlib.Core.Bool.{Bool}
use mathlib.Core.List.{List}
use Rattle.std.specs.Prelude.{Result, Ok, Err}
use Rattle.rules.specs.Replies.{Verdict}
use Rattle.rules.specs.declared.Refusal.{Refusal}
use Rattle.rules.specs.Network.{links_of, arcs_of}
use Rattle.rules.specs.Machine.{Run, lowest, is_quiet}
use Rattle.rules.proofs.Tests.{clash}
use Rattle.machine.specs.declared.Ran.{Ran}
use Rattle.machine.specs.Entries.{reply_run}

pub reply_refused : (ws : List ℕ) (run : Run) (v : Verdict) (why : Refusal) → reply_run ws run v ≡ Err why → v ≡ Err why
reply_refused ws run (Ok tt) why e = cc
reply_refused ws run (Err r) why e = cc

pub record Ended (ws : List ℕ) (run : Run) (v : Verdict) (made idle : ℕ) (quiet : Bool) : Type 0 where
  pub passes : v ≡ Ok tt
  pub deliveries : made ≡ run.made
  pub idles : idle ≡ run.idle
  pub waits_not : quiet ≡ is_quiet (lowest (arcs_of (links_of ws)) run.state.waiting)

ran_of : {x y : Ran} → (let reply : Result Ran Refusal = Ok x in reply ≡ Ok y) → x ≡ y
ran_of e = cc

pub reply_Ended : (ws : List ℕ) (run : Run) (v : Verdict) (made idle : ℕ) (quiet : Bool) → reply_run ws run v ≡ Ok (record { made = made; idle = idle; quiet = quiet })
    → Ended ws run v made idle quiet
reply_Ended ws run (Ok tt) made idle quiet e =
    let ran = ran_of e in
    record {
      passes = refl;
      deliveries = ap (λ (x : Ran). x.made) (sym ran);
      idles = ap (λ (x : Ran). x.idle) (sym ran);
      waits_not = ap (λ (x : Ran). x.quiet) (sym ran);
    }
reply_Ended ws run (Err r) made idle quiet e = clash (cc)
