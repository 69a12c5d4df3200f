use Rattle.std.proofs.Common.{arith, ◌+◌, ◌-◌, ap, length, take, drop, length-drop, ℕ}
use Rattle.std.proofs.lemmas.List.{take_all}
use Rattle.linktext.proofs.PlaceLaws.{place_found, place_none}
use Rattle.linktext.proofs.line.find.Goals as goal

pub returns-in-Some : goal.returns-in-Some
returns-in-Some c =
    let a = c.args in
    let whole = take_all (length a.s.now - a.from) (drop a.from a.s.now) (omega (arith, length-drop a.from a.s.now)) in
    ap (λ (n : ℕ). a.from + n) (rw whole at (place_found a.byte c.in-Some.place (take (length a.s.now - a.from) (drop a.from a.s.now)) c.in-Some.ensures))

pub returns-in-None : goal.returns-in-None
returns-in-None c =
    let a = c.args in
    let whole = take_all (length a.s.now - a.from) (drop a.from a.s.now) (omega (arith, length-drop a.from a.s.now)) in
    omega (arith, rw whole at (place_none a.byte (take (length a.s.now - a.from) (drop a.from a.s.now)) c.in-None.ensures), length-drop a.from a.s.now)
