-- The round trips: reading what was written gives the same links, writing what was read gives the text without comments.
--
--   read_write         plain links, within the limits, come back from their text
--   base_bound, read_write_base   .. and at the base limits the number of links is limit enough
--   write_read         the links of a text are written as that text without comments
--   read_plain, read_count   the links of a text are plain, and within the limit
use Prim.Native.Nat.{ℕ, suc, ◌+◌, ◌≤◌}
use mathlib.Core.Path.{◌≡◌, ◌∙◌, refl, sym}
use mathlib.Core.Logic.{inl, inr, ⊎_elim}
use mathlib.Core.List.{List, [], ◌∷◌}
use native.Mathlib.Omega.{arith}
use lib.Dec.{ltb, leb}
use lib.ListN.{length}
use borrow.Author.Tests.{le-ltb, lt-leb, leb-false}
use Rattle.std.specs.Prelude.{Ok, Err}
use Rattle.rules.specs.declared.Link.{Link}
use Rattle.rules.specs.declared.Limits.{Limits}
use Rattle.rules.specs.Lists.{In}
use Rattle.rules.specs.Checks.{base_limits}
use Rattle.rules.proofs.Tests.{by_cond, clash}
use Rattle.linktext.specs.declared.LineRead.{LineRead}
use Rattle.linktext.specs.declared.LineRead.TheVariants.{Skip, Reads, Faulty}
use Rattle.linktext.specs.Lines.{read_of_line}
use Rattle.linktext.specs.Texts.{lines_of, TextRead, and_link, take_line, text_read_from, text_in, text_of, keep_lines, without_comments}
use Rattle.linktext.specs.Plain.{Plain}
use Rattle.linktext.proofs.LineLaws.{line_reads, reads_line}
use Rattle.linktext.proofs.TextLaws.{text_line, lines_text_lem, text_bound, reads_kept, skip_left}

-- ---- written, then read

lines_back : (most n i : ℕ) (ls : List Link) → ((l : Link) → In l ls → Plain l) → n + length ls ≤ most
    → text_read_from most n i (lines_of (text_of ls)) ≡ Ok ls
unfolding text_read_from lines_of text_of
lines_back most n i [] p h = refl
lines_back most n i (l ∷ ls) p h =
    let q = p l (inl refl) in
    simp (lines_text_lem l ls q, line_reads l q, lt-leb most n (omega arith), lines_back most (suc n) (suc i) ls (λ k m. p k (inr m)) (omega arith))

pub read_write : (limits : Limits) (ls : List Link) → ((l : Link) → In l ls → Plain l) → length ls ≤ limits.links
    → length (text_of ls) ≤ limits.text → text_in limits (text_of ls) ≡ Ok ls
unfolding text_in
read_write limits ls p h k = simp (le-ltb limits.text (length (text_of ls)) k) (lines_back limits.links 0 1 ls p (omega arith))

-- 1,536 links take at most 38,400 bytes
pub base_bound : (ls : List Link) → length ls ≤ base_limits.links → length (text_of ls) ≤ 38400
base_bound ls h = omega (arith, text_bound ls)

pub read_write_base : (ls : List Link) → ((l : Link) → In l ls → Plain l) → length ls ≤ base_limits.links → text_in base_limits (text_of ls) ≡ Ok ls
read_write_base ls p h = read_write base_limits ls p h (omega (arith, base_bound ls h))

-- ---- read, then written

-- lines that read as links, after n links of at most so many
record Kept (most n : ℕ) (lines : List (List ℕ)) (ls : List Link) : Type 0 where
  text : text_of ls ≡ keep_lines lines
  plain : (l : Link) → In l ls → Plain l
  count : n + length ls ≤ most

nothing : (most n : ℕ) → n ≤ most → Kept most n [] []
unfolding keep_lines text_of
nothing most n h = record { text = refl; plain = λ l m. absurd m; count = omega arith }

skipped : (most n : ℕ) (l : List ℕ) (lines : List (List ℕ)) (ls : List Link) → read_of_line l ≡ Skip → Kept most n lines ls → Kept most n (l ∷ lines) ls
unfolding keep_lines
skipped most n l lines ls e h = record { text = h.text ∙ sym (skip_left l (keep_lines lines) e); plain = h.plain; count = h.count }

taken : (most n : ℕ) (l : List ℕ) (lines : List (List ℕ)) (k : Link) (ls : List Link) → read_of_line l ≡ Reads k → Kept most (suc n) lines ls
    → Kept most n (l ∷ lines) (k ∷ ls)
unfolding keep_lines
taken most n l lines k ls e h =
    let r = reads_line l k e in
    record {
      text = text_line k ls ∙ rw (r.text, h.text) (sym (reads_kept l (keep_lines lines) k e));
      plain = λ x m. ⊎_elim (λ q. rw q r.plain) (h.plain x) m;
      count = omega (arith, h.count);
    }

kept : (most n i : ℕ) (lines : List (List ℕ)) (ls : List Link) → n ≤ most → text_read_from most n i lines ≡ Ok ls → Kept most n lines ls
unfolding text_read_from
kept most n i [] ls h e = let q : ls ≡ [] = cc in rw q (nothing most n h)
kept most n i (l ∷ lines) ls h e = go (read_of_line l) refl (λ m. kept most m (suc i) lines) e
  where
    later : TextRead
    later = text_read_from most (suc n) (suc i) lines

    add : (k : Link) (x : TextRead) → later ≡ x → read_of_line l ≡ Reads k → ((ms : List Link) → later ≡ Ok ms → Kept most (suc n) lines ms)
        → and_link k x ≡ Ok ls → Kept most n (l ∷ lines) ls
    add k (Ok ms) r b ih w = let q : ls ≡ k ∷ ms = cc in rw q (taken most n l lines k ms b (ih ms r))
    add k (Err y) r b ih w = clash (cc)

    go : (x : LineRead) → read_of_line l ≡ x → ((m : ℕ) (ms : List Link) → m ≤ most → text_read_from most m (suc i) lines ≡ Ok ms → Kept most m lines ms)
        → take_line most n i (λ m. text_read_from most m (suc i) lines) x ≡ Ok ls → Kept most n (l ∷ lines) ls
    go Skip b ih w = skipped most n l lines ls b (ih n ls h w)
    go (Reads k) b ih w =
        by_cond (λ (x : TextRead). x ≡ Ok ls → Kept most n (l ∷ lines) ls) (leb most n) _ _ (λ t v. clash (cc))
        (λ t v. add k later refl b (λ ms. ih (suc n) ms (leb-false most n t)) v)
        w
    go (Faulty y) b ih w = clash (cc)

text_Kept : (limits : Limits) (t : List ℕ) (ls : List Link) → text_in limits t ≡ Ok ls → Kept limits.links 0 (lines_of t) ls
unfolding text_in
text_Kept limits t ls =
    by_cond (λ (x : TextRead). x ≡ Ok ls → Kept limits.links 0 (lines_of t) ls) (ltb limits.text (length t)) _ _ (λ b e. clash (cc))
    (λ b e. kept limits.links 0 1 (lines_of t) ls (omega arith) e)

pub write_read : (limits : Limits) (t : List ℕ) (ls : List Link) → text_in limits t ≡ Ok ls → text_of ls ≡ without_comments t
write_read limits t ls e = (text_Kept limits t ls e).text

pub read_plain : (limits : Limits) (t : List ℕ) (ls : List Link) → text_in limits t ≡ Ok ls → (l : Link) → In l ls → Plain l
read_plain limits t ls e = (text_Kept limits t ls e).plain

pub read_count : (limits : Limits) (t : List ℕ) (ls : List Link) → text_in limits t ≡ Ok ls → length ls ≤ limits.links
read_count limits t ls e = omega (arith, (text_Kept limits t ls e).count)
