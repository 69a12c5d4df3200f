-- Laws of the quick reader: what it has passed stands in the text as it would be written.
--
--   here, join         one byte stands; two parts that follow each other stand
--   under              a value that can take one digit more
--   Begun-one, begun_more, Begun-next   a number's first digit, one more; one more, as it is tested
--   Begun-four, Begun-eight   its first four at once, and four more
--   spell_none, begins the number 0; any other number's first digit, as it is tested
--   Written-Gives      a link's line gives the link
use mathlib.Core.Path.{◌≡◌, refl, sym, ap, ◌∙◌}
use mathlib.Core.List.{List, [], ◌∷◌, ◌++◌, append_assoc}
use Prim.Native.Nat.{ℕ, zero, suc, ◌+◌, ◌-◌, ◌*◌, ◌/◌, ◌%◌, ◌^◌, ◌≤◌, ◌<◌}
use native.Mathlib.Numerals.{add-one}
use native.Mathlib.Omega.{arith}
use lib.ListN.{length, get_or, drop, length-append}
use lib.Seq.{drop-cons, take_at}
use borrow.Author.Tests.{eq-eqb, ne_eqb}
use Rattle.rules.specs.declared.Link.{Link}
use Rattle.rules.specs.Lists.{Without}
use Rattle.linktext.specs.declared.LineRead.TheVariants.{Reads}
use Rattle.linktext.specs.Lines.{lf, digit0, digit9}
use Rattle.linktext.specs.Texts.{decimal}
use Rattle.linktext.specs.Fields.{place_of}
use Rattle.linktext.specs.Plain.{line_body}
use Rattle.linktext.specs.Usual.{Stands, Found, Begun, FourDigits, Written, Gives}
use Rattle.linktext.proofs.DigitLaws.{more, digits_spell, Spells-digits, decimal_short}
use Rattle.linktext.proofs.FourLaws.{digit_Bytes}
use Rattle.linktext.proofs.LineLaws.{body_Without, line_reads}
use Rattle.linktext.proofs.TextLaws.{line_text_lem}

-- ---- bytes that stand

pub here : (t : List ℕ) (i c : ℕ) → i < length t → get_or t i 0 ≡ c → Stands t i (c ∷ []) (i + 1)
here t i c h e = record { bytes = rw (add-one, ← e) (drop-cons t i 0 h); after = refl }

pub join : {t f g : List ℕ} {at mid end : ℕ} → Stands t at f mid → Stands t mid g end → Stands t at (f ++ g) end
join {t} {f} {g} {at} {mid} {end} p q =
    record {
      bytes = p.bytes ∙ ap (λ (l : List ℕ). f ++ l) q.bytes ∙ sym (append_assoc f g (drop end t));
      after = omega (arith, p.after, q.after, length-append f g);
    }

-- ---- numbers of at most ten digits

some_power : (m : ℕ) → 1 ≤ 10 ^ m
some_power zero = omega arith
some_power (suc m) = omega (arith, some_power m)

powers : (k m : ℕ) → k ≤ m → 10 ^ k ≤ 10 ^ m
powers zero m h = some_power m
powers (suc k) zero h = absurd (omega arith)
powers (suc k) (suc m) h = omega (arith, powers k m (omega arith))

-- a number's last digit, after those of its tenth part
decimal_more : (v d : ℕ) → 1 ≤ v → v < 1000000000 → d ≤ 9 → decimal (10 * v + d) ≡ decimal v ++ ((digit0 + d) ∷ [])
decimal_more v d h k l = Spells-digits 9 (more v d (decimal v) h (omega arith) (digits_spell 9 v (omega arith)) refl refl) (omega arith)

pub under : {t : List ℕ} {at k v : ℕ} → Begun t at k v → k < 10 → v < 1000000000
under {t} {at} {k} {v} s h = omega (arith, s.small, powers k 9 (omega arith))

-- the first digit
pub Begun-one : (t : List ℕ) (at d : ℕ) → at + 10 ≤ length t → 1 ≤ d → d ≤ 9 → get_or t at 0 ≡ digit0 + d → Begun t at 1 d
Begun-one t at d h s l e =
    record {
      room = h;
      most = omega arith;
      some = s;
      small = omega arith;
      stands = rw (decimal_short d (omega arith)) (here t at (digit0 + d) (omega arith) e);
    }

-- one digit more
pub begun_more : {t : List ℕ} {at k v : ℕ} (d : ℕ) → Begun t at k v → k < 10 → d ≤ 9 → get_or t (at + k) 0 ≡ digit0 + d → Begun t at (k + 1) (10 * v + d)
begun_more {t} {at} {k} {v} d s h l e =
    let next : at + k + 1 ≡ at + (k + 1) = omega arith in
    let byte = here t (at + k) (digit0 + d) (omega (arith, s.room)) e in
    record {
      room = s.room;
      most = omega arith;
      some = omega (arith, s.some);
      small = rw (add-one k) (omega (arith, s.small));
      stands = rw (decimal_more v d s.some (under s h) l, ← next) (join s.stands byte);
    }

pub Begun-next : {t : List ℕ} {at k v : ℕ} (d : ℕ) → Begun t at k v → k < 10 → digit0 ≤ get_or t (at + k) 0 → get_or t (at + k) 0 ≤ digit9 → d ≡ get_or t (at + k) 0 - digit0
    → Begun t at (k + 1) (10 * v + d)
Begun-next d s h low high p = begun_more d s h (omega arith) (omega arith)

-- four digits at once: the first four, and four more
pub Begun-four : {t : List ℕ} {at v : ℕ} → at + 10 ≤ length t → FourDigits t at v → (get_or t at 0 ≡ digit0 → ⊥) → Begun t at 4 v
Begun-four {t} {at} {v} h f z =
    let n = f.four in
    let p = f.digits in
    let b = digit_Bytes t at n f.bytes p in
    let one = Begun-one t at (n % 256) h (omega (arith, b.first)) p.first b.first in
    let two = begun_more (n / 256 % 256) one (omega arith) p.second b.second in
    let three = begun_more (n / 65536 % 256) two (omega arith) p.third b.third in
    let four = begun_more (n / 16777216) three (omega arith) p.fourth b.fourth in
    let same : 10 * (10 * (10 * (n % 256) + n / 256 % 256) + n / 65536 % 256) + n / 16777216 ≡ v = omega (arith, f.value) in
    rw same at four

pub Begun-eight : {t : List ℕ} {at v w : ℕ} → Begun t at 4 v → FourDigits t (at + 4) w → Begun t at 8 (10000 * v + w)
Begun-eight {t} {at} {v} {w} s f =
    let n = f.four in
    let p = f.digits in
    let b = digit_Bytes t (at + 4) n f.bytes p in
    let place : (i : ℕ) → at + 4 + i ≡ at + (4 + i) = λ i. omega arith in
    let one = begun_more (n % 256) s (omega arith) p.first b.first in
    let two = begun_more (n / 256 % 256) one (omega arith) p.second (rw (place 1) at b.second) in
    let three = begun_more (n / 65536 % 256) two (omega arith) p.third (rw (place 2) at b.third) in
    let four = begun_more (n / 16777216) three (omega arith) p.fourth (rw (place 3) at b.fourth) in
    let same : 10 * (10 * (10 * (10 * v + n % 256) + n / 256 % 256) + n / 65536 % 256) + n / 16777216 ≡ 10000 * v + w = omega (arith, f.value) in
    rw same at four

pub spell_none : (t : List ℕ) (at : ℕ) → at < length t → get_or t at 0 ≡ digit0 → Found t at 10 4294967295 decimal 0 (at + 1)
spell_none t at h e =
    record { within = omega arith; small = omega arith; stands = rw (decimal_short 0 (omega arith)) (here t at digit0 h e) }

pub begins : (t : List ℕ) (at d : ℕ) → at + 10 ≤ length t → digit0 ≤ get_or t at 0 → get_or t at 0 ≤ digit9 → (get_or t at 0 ≡ digit0 → ⊥) → d ≡ get_or t at 0 - digit0
    → Begun t at 1 d
begins t at d h low high z p = Begun-one t at d h (omega arith) (omega arith) (omega arith)

-- ---- lines

place_of_lem : (s : ℕ) (f l : List ℕ) → Without s f → place_of s (f ++ (s ∷ l)) ≡ length f
unfolding place_of
place_of_lem s [] l h = simp (eq-eqb s s refl)
place_of_lem s (c ∷ f) l h = simp (ne_eqb c s (λ e. h.0 (sym e)), place_of_lem s f l h.1)

-- a link's line gives the link
pub Written-Gives : {t : List ℕ} {at end : ℕ} {l : Link} → Written t at l end → Gives t at end (Reads l)
Written-Gives {t} {at} {end} {l} w =
    let s = w.stands in
    let after = drop (end + 1) t in
    let bytes : drop at t ≡ line_body l ++ (lf ∷ after) = s.bytes ∙ rw line_text_lem (append_assoc (line_body l) (lf ∷ []) after) in
    let place : place_of lf (drop at t) ≡ length (line_body l) =
    rw bytes (place_of_lem lf (line_body l) after (body_Without lf l w.plain (omega arith))) in
    let long : end - at ≡ length (line_body l) =
    omega (arith, s.after, ap length (line_text_lem l), length-append (line_body l) (lf ∷ [])) in
    record {
      stop = omega (arith, s.after, ap length (line_text_lem l), length-append (line_body l) (lf ∷ []));
      gave = rw (bytes, take_at (line_body l) (lf ∷ after) (end - at) (sym long)) (sym (line_reads l w.plain));
    }
