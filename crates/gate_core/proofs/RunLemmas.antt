-- Runs joined end to end, and lines of a text in two parts.
use Rattle.std.proofs.Common.{◌≡◌, ℕ, ◌+◌, ◌<◌, ◌≤◌, List, [], ◌∷◌, ◌++◌, length, take, drop, Option, arith, inl, inr}
use Rattle.std.proofs.Common.{refl, sym, ap, ◌∙◌, subst, append_assoc, append-nil, length-append, cond, nat_eq}
use Rattle.std.proofs.Common.{get_or, add-one, true, false}
use Rattle.std.specs.Io.KnownBytes.{Appends, Consumes, IsAtEnd, Keeps}
use Rattle.std.specs.Io.Iter.{u64_saturate}
use Rattle.std.proofs.KnownBytes.{Appends-trans, Appends-nil, Consumes-trans, Consumes-kept}
use Rattle.std.proofs.Math.Seq.{drop-cons}
use Rattle.std.proofs.lemmas.List.{length-take}
use Rattle.gate_types.specs.Tap.{WritesFront}
use Rattle.gate_core.specs.Line.{HoldsLine}
use Rattle.gate_core.specs.declared.line.Line.{Line}
use Rattle.gate_core.specs.Gathered.{whole_from, rest_from}
use Rattle.gate_core.specs.Limit.{longest_read}
use Rattle.gate_core.specs.Lines.{whole_lines, lines_of, ReadFor}
use Rattle.gate_core.proofs.LineLemmas.{whole_gathered, lines_gathered, if_some, if_some_some}
use Rattle.gate_core.specs.Runs.{Replying, AnswersLine, Runs, Fed, BrokeInWriting}

pub runs_append : {S : Type 0} (replies : Replying S) (s : S) (a b : List (List ℕ)) (t u : List ℕ) (m e : S) → Runs replies s a t m → Runs replies m b u e → Runs replies s (a ++ b) (t ++ u) e
runs_append replies s [] b t u m e (et, em) h = subst (λ x. Runs replies x b (t ++ u) e) em (subst (λ x. Runs replies m b (x ++ u) e) (sym et) h)
runs_append replies s (l ∷ ls) b t u m e (said, more, mid, ans, et, rest) h =
    (said, more ++ u, mid, ans, ap (λ x. x ++ u) et ∙ append_assoc (said ++ 10 ∷ []) more u, runs_append replies mid ls b more u m e rest h)

pub fed_nil : {S : Type 0} (replies : Replying S) (s : S) (o : Option (List ℕ)) → Fed replies s [] s o o
fed_nil replies s o = record { text = []; ran = (refl, refl); written = Appends-nil o }

pub fed_append : {S : Type 0} (replies : Replying S) (s m e : S) (a b : List (List ℕ)) (o p q : Option (List ℕ)) → Fed replies s a m o p → Fed replies m b e p q → Fed replies s (a ++ b) e o q
fed_append replies s m e a b o p q f h = record {
  text = f.text ++ h.text;
  ran = runs_append replies s a b f.text h.text m e f.ran h.ran;
  written = Appends-trans o p q f.text h.text f.written h.written;
}

pub fed_one : {S : Type 0} (replies : Replying S) (s e : S) (line said : List ℕ) (o p : Option (List ℕ)) → AnswersLine replies s line said e → Appends o p (said ++ 10 ∷ []) → Fed replies s (line ∷ []) e o p
fed_one replies s e line said o p ans w = record {
  text = (said ++ 10 ∷ []) ++ [];
  ran = (said, [], e, ans, refl, (refl, refl));
  written = subst (Appends o p) (sym (append-nil (said ++ 10 ∷ []))) w;
}

pub broke_after : {S : Type 0} (replies : Replying S) (s m e : S) (a b : List (List ℕ)) (o p q : Option (List ℕ)) → Fed replies s a m o p → BrokeInWriting replies m b e p q → BrokeInWriting replies s (a ++ b) e o q
broke_after replies s m e a b o p q f h = record {
  done = a ++ h.done;
  line = h.line;
  more = h.more;
  split = ap (λ x. a ++ x) h.split ∙ sym (append_assoc a h.done (h.line ∷ h.more));
  text = f.text ++ h.text;
  mid = h.mid;
  ran = runs_append replies s a h.done f.text h.text m h.mid f.ran h.ran;
  said = h.said;
  answered = h.answered;
  at = h.at;
  short = h.short;
  written = subst (Appends o q) (sym (append_assoc f.text h.text (take h.at (h.said ++ 10 ∷ [])))) (Appends-trans o p q f.text (h.text ++ take h.at (h.said ++ 10 ∷ [])) f.written h.written);
}

pub broke_one : {S : Type 0} (replies : Replying S) (s e : S) (line said : List ℕ) (more : List (List ℕ)) (o p : Option (List ℕ)) → AnswersLine replies s line said e → WritesFront o p (said ++ 10 ∷ []) → BrokeInWriting replies s (line ∷ more) e o p
broke_one replies s e line said more o p ans (n, short, w) = record {
  done = [];
  line = line;
  more = more;
  split = refl;
  text = [];
  mid = s;
  ran = (refl, refl);
  said = said;
  answered = ans;
  at = n;
  short = short;
  written = w;
}

pub whole-append : (begun xs ys : List ℕ) → whole_from begun (xs ++ ys) ≡ whole_from begun xs ++ whole_from (rest_from begun xs) ys
whole-append begun [] ys = refl
whole-append begun (b ∷ bs) ys = elim (nat_eq b 10) as (λ t. cond t (begun ∷ whole_from [] (bs ++ ys)) (whole_from (begun ++ b ∷ []) (bs ++ ys))
    ≡ cond t (begun ∷ whole_from [] bs) (whole_from (begun ++ b ∷ []) bs) ++ whole_from (cond t (rest_from [] bs) (rest_from (begun ++ b ∷ []) bs)) ys) [
      | true ↦ ap (λ l. begun ∷ l) (whole-append [] bs ys)
      | false ↦ whole-append (begun ++ b ∷ []) bs ys
    ]

pub rest-append : (begun xs ys : List ℕ) → rest_from begun (xs ++ ys) ≡ rest_from (rest_from begun xs) ys
rest-append begun [] ys = refl
rest-append begun (b ∷ bs) ys = elim (nat_eq b 10) as (λ t. cond t (rest_from [] (bs ++ ys)) (rest_from (begun ++ b ∷ []) (bs ++ ys))
    ≡ rest_from (cond t (rest_from [] bs) (rest_from (begun ++ b ∷ []) bs)) ys) [
      | true ↦ rest-append [] bs ys
      | false ↦ rest-append (begun ++ b ∷ []) bs ys
    ]

-- how far a chunk has been fed
pub record SoFar {S : Type 0} (replies : Replying S) (s : S) (begun bytes left : List ℕ) (after : S) (old new : Option (List ℕ)) (line : Line) (first count : ℕ) : Type 0 where
  pub done : List (List ℕ)
  pub now : List ℕ
  pub whole : whole_from begun bytes ≡ done ++ whole_from now left
  pub rest : rest_from begun bytes ≡ rest_from now left
  pub holds : HoldsLine line now
  pub fed : Fed replies s done after old new
  pub counted : count ≡ u64_saturate (first + length done)

pub so_far_byte : {S : Type 0} (replies : Replying S) (s : S) (begun bytes : List ℕ) (b : ℕ) (left : List ℕ) (after : S) (old new : Option (List ℕ)) (line next : Line) (first count : ℕ)
    → nat_eq b 10 ≡ false → ((now : List ℕ) → HoldsLine line now → HoldsLine next (now ++ b ∷ []))
    → SoFar replies s begun bytes (b ∷ left) after old new line first count → SoFar replies s begun bytes left after old new next first count
so_far_byte replies s begun bytes b left after old new line next first count other push h = record {
  done = h.done;
  fed = h.fed;
  counted = h.counted;
  now = h.now ++ b ∷ [];
  whole = h.whole ∙ ap (λ t. h.done ++ cond t (h.now ∷ whole_from [] left) (whole_from (h.now ++ b ∷ []) left)) other;
  rest = h.rest ∙ ap (λ t. cond t (rest_from [] left) (rest_from (h.now ++ b ∷ []) left)) other;
  holds = push h.now h.holds;
}

pub so_far_line : {S : Type 0} (replies : Replying S) (s : S) (begun bytes : List ℕ) (b : ℕ) (left : List ℕ) (after last : S) (old new end : Option (List ℕ)) (line next : Line) (first count : ℕ)
    → nat_eq b 10 ≡ true → ((now : List ℕ) → HoldsLine line now → (said : List ℕ) × AnswersLine replies after now said last × Appends new end (said ++ 10 ∷ [])) → HoldsLine next []
    → SoFar replies s begun bytes (b ∷ left) after old new line first count → SoFar replies s begun bytes left last old end next first (u64_saturate (count + 1))
so_far_line replies s begun bytes b left after last old new end line next first count lf says empty h =
    let said = says h.now h.holds in record {
      done = h.done ++ h.now ∷ [];
      now = [];
      whole = h.whole ∙ ap (λ t. h.done ++ cond t (h.now ∷ whole_from [] left) (whole_from (h.now ++ b ∷ []) left)) lf ∙ sym (append_assoc h.done (h.now ∷ []) (whole_from [] left));
      rest = h.rest ∙ ap (λ t. cond t (rest_from [] left) (rest_from (h.now ++ b ∷ []) left)) lf;
      holds = empty;
      fed = fed_append replies s after last h.done (h.now ∷ []) old new end h.fed (fed_one replies after last h.now said.0 new end said.1 said.2);
      counted = omega (arith, h.counted, length-append h.done (h.now ∷ []));
    }

pub so_far_broke : {S : Type 0} (replies : Replying S) (s : S) (begun bytes : List ℕ) (b : ℕ) (left : List ℕ) (after last : S) (old new end : Option (List ℕ)) (line : Line) (first count : ℕ)
    → nat_eq b 10 ≡ true → ((now : List ℕ) → HoldsLine line now → (said : List ℕ) × AnswersLine replies after now said last × WritesFront new end (said ++ 10 ∷ []))
    → SoFar replies s begun bytes (b ∷ left) after old new line first count → BrokeInWriting replies s (whole_from begun bytes) last old end
so_far_broke replies s begun bytes b left after last old new end line first count lf says h =
    let said = says h.now h.holds in
    subst (λ l. BrokeInWriting replies s l last old end) (sym (h.whole ∙ ap (λ t. h.done ++ cond t (h.now ∷ whole_from [] left) (whole_from (h.now ++ b ∷ []) left)) lf))
    (broke_after replies s after last h.done (h.now ∷ whole_from [] left) old new end h.fed (broke_one replies after last h.now said.0 (whole_from [] left) new end said.1 said.2))

pub drop_next : (l : List ℕ) (i : ℕ) → i < length l → drop i l ≡ get_or l i 0 ∷ drop (i + 1) l
drop_next l i h = rw add-one (drop-cons l i 0 h)

-- the whole state of a replay between two reads
pub record Between {S : Type 0} (replies : Replying S) (s : S) (left now : Option (List ℕ)) (after : S) (old new : Option (List ℕ)) (line : Line) (count : ℕ) : Type 0 where
  pub front : List ℕ
  pub consumed : Consumes left now front
  pub fed : Fed replies s (whole_from [] front) after old new
  pub holds : HoldsLine line (rest_from [] front)
  pub counted : count ≡ u64_saturate (length (whole_from [] front))

-- what feeding a chunk says
abbrev pub Feeds : {S : Type 0} → Replying S → S → List ℕ → S → Option (List ℕ) → Option (List ℕ) → Line → Line → ℕ → ℕ → Type 0
Feeds replies s chunk after old new line next count n = (begun : List ℕ) → HoldsLine line begun →
    Fed replies s (whole_from begun chunk) after old new × HoldsLine next (rest_from begun chunk) × (n ≡ u64_saturate (count + length (whole_from begun chunk)))

pub between_fed : {S : Type 0} {replies : Replying S} {s m e : S} {a b d o p q : Option (List ℕ)} {line next : Line} {count n : ℕ} (chunk : List ℕ)
    → Between replies s a b m o p line count → Consumes b d chunk → Feeds replies m chunk e p q line next count n → Between replies s a d e o q next n
between_fed {replies = replies} {s = s} {m = m} {e = e} {a = a} {b = b} {d = d} {o = o} {p = p} {q = q} {next = next} chunk h took feeds =
    let f = feeds (rest_from [] h.front) h.holds in
    let whole = whole-append [] h.front chunk in record {
      front = h.front ++ chunk;
      consumed = Consumes-trans a b d h.front chunk h.consumed took;
      fed = subst (λ l. Fed replies s l e o q) (sym whole) (fed_append replies s m e (whole_from [] h.front) (whole_from (rest_from [] h.front) chunk) o p q h.fed f.0);
      holds = subst (HoldsLine next) (sym (rest-append [] h.front chunk)) f.1;
      counted = omega (arith, h.counted, f.2, ap length whole, length-append (whole_from [] h.front) (whole_from (rest_from [] h.front) chunk));
    }

-- the lines where something stands behind the last LF
every_line_is : (front : List ℕ) → (rest_from [] front ≡ [] → ⊥) → whole_from [] front ++ rest_from [] front ∷ [] ≡ lines_of front
every_line_is front some =
    ap (λ l. whole_from [] front ++ l) (sym (if_some_some (rest_from [] front) some)) ∙ lines_gathered front

-- what a cut answer leaves behind: the lines up to it ran, and no more was read than it took
abbrev pub Stops : {S : Type 0} → Replying S → S → Option (List ℕ) → Option (List ℕ) → S → Option (List ℕ) → Option (List ℕ) → Type 0
Stops replies s a d e o q = (lines : List (List ℕ)) × (broke : BrokeInWriting replies s lines e o q) × ReadFor a d lines (length broke.done)

-- what is read into a buffer is no longer than it
pub one_read : (n : ℕ) (buf : List ℕ) → length buf ≡ longest_read → length (take n buf) ≤ longest_read
one_read n buf size = omega (arith, length-take n buf)

pub between_broke : {S : Type 0} {replies : Replying S} {s m e : S} {a b d o p q : Option (List ℕ)} {line : Line} {count : ℕ} (chunk : List ℕ)
    → Between replies s a b m o p line count → Consumes b d chunk → length chunk ≤ longest_read
    → ((begun : List ℕ) → HoldsLine line begun → BrokeInWriting replies m (whole_from begun chunk) e p q) → Stops replies s a d e o q
unfolding broke_after
between_broke {replies = replies} {s = s} {m = m} {e = e} {a = a} {b = b} {d = d} {o = o} {p = p} {q = q} chunk h took short broke =
    let rest = rest_from [] h.front in
    let stopped = broke rest h.holds in
    let whole = whole_from [] h.front in (
      whole ++ whole_from rest chunk,
      broke_after replies s m e whole (whole_from rest chunk) o p q h.fed stopped,
      record {
        before = h.front;
        chunk = chunk;
        read = Consumes-trans a b d h.front chunk h.consumed took;
        one_read = short;
        every_line = inl (sym (whole-append [] h.front chunk) ∙ whole_gathered (h.front ++ chunk));
        needed = omega (arith, ap length (whole_gathered h.front), length-append whole stopped.done);
      },
    )

-- at the end, where something is left
pub last_broke : {S : Type 0} {replies : Replying S} {s m e : S} {a b d o p q : Option (List ℕ)} {line : Line} {count : ℕ}
    → Between replies s a b m o p line count → Consumes b d [] → IsAtEnd d → ((begun : List ℕ) → HoldsLine line begun → begun ≡ [] → ⊥)
    → ((begun : List ℕ) → HoldsLine line begun → (said : List ℕ) × AnswersLine replies m begun said e × WritesFront p q (said ++ 10 ∷ []))
    → Stops replies s a d e o q
unfolding broke_after broke_one
last_broke {replies = replies} {s = s} {m = m} {e = e} {a = a} {b = b} {d = d} {o = o} {p = p} {q = q} h took end some says =
    let rest = rest_from [] h.front in
    let said = says rest h.holds in
    let whole = whole_from [] h.front in (
      whole ++ rest ∷ [],
      broke_after replies s m e whole (rest ∷ []) o p q h.fed (broke_one replies m e rest said.0 [] p q said.1 said.2),
      record {
        before = h.front;
        chunk = [];
        read = Consumes-trans a b d h.front [] h.consumed took;
        one_read = omega arith;
        every_line = inr (every_line_is h.front (some rest h.holds) ∙ ap lines_of (sym (append-nil h.front)), end);
        needed = omega (arith, ap length (whole_gathered h.front), length-append whole []);
      },
    )

abbrev pub Done : {S : Type 0} → Replying S → S → Option (List ℕ) → Option (List ℕ) → S → Option (List ℕ) → Option (List ℕ) → ℕ → Type 0
Done replies s a d e o q n = (input : List ℕ) × Consumes a d input × IsAtEnd d × Fed replies s (lines_of input) e o q × (n ≡ u64_saturate (length (lines_of input)))

pub last_done : {S : Type 0} {replies : Replying S} {s m e : S} {a b o p q : Option (List ℕ)} (d : Option (List ℕ)) {line : Line} {count : ℕ}
    → Between replies s a b m o p line count → Consumes b d [] → IsAtEnd d → ((begun : List ℕ) → HoldsLine line begun → begun ≡ [] → ⊥)
    → ((begun : List ℕ) → HoldsLine line begun → (said : List ℕ) × AnswersLine replies m begun said e × Appends p q (said ++ 10 ∷ []))
    → Done replies s a d e o q (u64_saturate (count + 1))
last_done {replies = replies} {s = s} {m = m} {e = e} {a = a} {b = b} {o = o} {p = p} {q = q} d h took end some says =
    let rest = rest_from [] h.front in
    let said = says rest h.holds in
    let whole = whole_from [] h.front in
    let every_line = every_line_is h.front (some rest h.holds) in (
      h.front,
      subst (Consumes a d) (append-nil h.front) (Consumes-trans a b d h.front [] h.consumed took),
      end,
      subst (λ l. Fed replies s l e o q) every_line
          (fed_append replies s m e whole (rest ∷ []) o p q h.fed (fed_one replies m e rest said.0 p q said.1 said.2)),
      omega (arith, h.counted, ap length (sym every_line), length-append whole (rest ∷ [])),
    )

pub none_done : {S : Type 0} {replies : Replying S} {s m : S} {a b o p : Option (List ℕ)} (d : Option (List ℕ)) {line : Line} {count : ℕ}
    → Between replies s a b m o p line count → Consumes b d [] → IsAtEnd d → ((begun : List ℕ) → HoldsLine line begun → begun ≡ [])
    → Done replies s a d m o p count
none_done {replies = replies} {s = s} {m = m} {a = a} {b = b} {o = o} {p = p} d h took end none =
    let rest = rest_from [] h.front in
    let whole = whole_from [] h.front in
    let every_line : whole ≡ lines_of h.front = sym (append-nil whole) ∙ ap (λ r. whole ++ if_some r) (sym (none rest h.holds)) ∙ lines_gathered h.front in (
      h.front,
      subst (Consumes a d) (append-nil h.front) (Consumes-trans a b d h.front [] h.consumed took),
      end,
      subst (λ l. Fed replies s l m o p) every_line h.fed,
      h.counted ∙ ap (λ l. u64_saturate (length l)) every_line,
    )

abbrev pub Unfinished : {S : Type 0} → Replying S → S → Option (List ℕ) → Option (List ℕ) → S → Option (List ℕ) → Option (List ℕ) → Type 0
Unfinished replies s a d e o q = (front : List ℕ) × Consumes a d front × Fed replies s (whole_lines front) e o q

-- at a read that fails
pub between_failed : {S : Type 0} {replies : Replying S} {s m : S} {a b o p : Option (List ℕ)} (d : Option (List ℕ)) {line : Line} {count : ℕ}
    → Between replies s a b m o p line count → Keeps b d → Unfinished replies s a d m o p
between_failed {replies = replies} {s = s} {m = m} {a = a} {b = b} {o = o} {p = p} d h kept =
    (h.front, Consumes-kept a b d h.front h.consumed kept, subst (λ l. Fed replies s l m o p) (whole_gathered h.front) h.fed)
