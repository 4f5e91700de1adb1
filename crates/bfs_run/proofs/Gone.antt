-- A line goes on, call by call.
use Rattle.std.proofs.Common.{◌≡◌, ◌∙◌, ◌<◌, ◌+◌, ℕ, List, [], ◌∷◌, ◌++◌, length, take, zero, suc, slice_get, Some, None, refl, arith, ap, sym, subst, append-nil, append_assoc}
use Rattle.std.proofs.lemmas.List.Elements.{All-nil, All-append}
use Rattle.bfs_tree.specs.declared.reply.Entry.{Entry}
use Rattle.bfs_command.specs.declared.line.Line.{Line}
use Rattle.bfs_command.specs.Spelled.{Spelled, SpelledSoFar, spelled_by}
use Rattle.bfs_command.specs.SpelledLaws.{LineIsSpelled, StopIsSpelled}
use Rattle.bfs_command.specs.Left.{Rest, begun, left}
use Rattle.bfs_run.specs.Scripts.{HasGone, HasLine, HasBegun}

abbrev Owned : Line → Entry → Type 0
Owned line e = (e.session ≡ line.session) × (e.tag ≡ line.number)

-- nothing was appended
pub gone_none : (line : Line) (r : Rest) (before now : List Entry) → now ≡ before → HasGone line r r before now
gone_none line r before now same = record {
  entries = [];
  appended = same ∙ sym (append-nil before);
  own = All-nil (Owned line);
  goes = λ more rest. rest;
}

-- two steps
pub gone_twice : (line : Line) (old mid new : Rest) (before between now : List Entry) → HasGone line old mid before between → HasGone line mid new between now → HasGone line old new before now
gone_twice line old mid new before between now one two = record {
  entries = one.entries ++ two.entries;
  appended = two.appended ∙ ap (λ (l : List Entry). l ++ two.entries) one.appended ∙ append_assoc before one.entries two.entries;
  own = All-append (Owned line) one.entries two.entries one.own two.own;
  goes = λ more rest. subst (left old) (sym (append_assoc one.entries two.entries more)) (one.goes (two.entries ++ more) (two.goes more rest));
}

-- a line that has ended, and one that stops
pub line_done : (root : ℕ) (line : Line) (first last : Rest) (before now : List Entry) → HasGone line first last before now → left last [] → ((es : List Entry) → left first es → spelled_by root line.command es) → HasLine root line before now
line_done root line first last before now gone ended spelled = record {
  entries = gone.entries;
  appended = gone.appended;
  own = gone.own;
  are = subst (spelled_by root line.command) (append-nil gone.entries) (spelled (gone.entries ++ []) (gone.goes [] ended));
}

pub line_begun : (root : ℕ) (line : Line) (first last : Rest) (before now : List Entry) → HasGone line first last before now → ((es : List Entry) → left first es → spelled_by root line.command es) → HasBegun root line before now
line_begun root line first last before now gone spelled = record {
  entries = gone.entries;
  rest = last;
  appended = gone.appended;
  own = gone.own;
  goes = λ more rest. spelled (gone.entries ++ more) (gone.goes more rest);
}

-- ---- lines

-- the lines in front of one, it, and those behind it
around : (lines : List Line) (at : ℕ) (line : Line) → slice_get lines at ≡ Some line → (later : List Line) × (lines ≡ take at lines ++ line ∷ later)
around [] at line is = absurd (let bad : None ≡ Some line = is in cc)
around (x ∷ xs) zero line is = let e : Some x ≡ Some line = is in let same : x ≡ line = cc in (xs, ap (λ (l : Line). l ∷ xs) same)
around (x ∷ xs) (suc at) line is = let more = around xs at line is in (more.0, ap (λ (ls : List Line). x ∷ ls) more.1)

take_next : (lines : List Line) (at : ℕ) (line : Line) → slice_get lines at ≡ Some line → take (suc at) lines ≡ take at lines ++ line ∷ []
take_next [] at line is = absurd (let bad : None ≡ Some line = is in cc)
take_next (x ∷ xs) zero line is = let e : Some x ≡ Some line = is in let same : x ≡ line = cc in ap (λ (l : Line). l ∷ []) same
take_next (x ∷ xs) (suc at) line is = ap (λ (ls : List Line). x ∷ ls) (take_next xs at line is)

some_line : (lines : List Line) (at : ℕ) → at < length lines → (line : Line) × (slice_get lines at ≡ Some line)
some_line [] at inside = absurd (omega (arith, inside))
some_line (x ∷ xs) zero inside = (x, refl)
some_line (x ∷ xs) (suc at) inside = some_line xs at (omega (arith, inside))

-- a line was run whole
pub run_at : (law : LineIsSpelled) (root : ℕ) (before now : List Entry) (lines : List Line) (at : ℕ) (line : Line) → slice_get lines at ≡ Some line → Spelled root before (take at lines) → HasLine root line before now → Spelled root now (take (at + 1) lines)
run_at law root before now lines at line item spelled done =
    let next : at + 1 ≡ suc at = omega arith in
    subst (Spelled root now) (sym (ap (λ (n : ℕ). take n lines) next ∙ take_next lines at line item))
    (subst (λ (history : List Entry). Spelled root history (take at lines ++ line ∷ [])) (sym done.appended) (law root before done.entries (take at lines) line spelled done.own done.are))

-- where a line stops, the history is spelled so far
pub stopped_at : (law : StopIsSpelled) (root : ℕ) (before now : List Entry) (lines : List Line) (at : ℕ) (line : Line) → slice_get lines at ≡ Some line → Spelled root before (take at lines) → HasBegun root line before now → SpelledSoFar root now lines
stopped_at law root before now lines at line item spelled begun =
    let parts = around lines at line item in
    subst (SpelledSoFar root now) (sym parts.1)
    (subst (λ (history : List Entry). SpelledSoFar root history (take at lines ++ line ∷ parts.0)) (sym begun.appended) (law root before begun.entries (take at lines) parts.0 line begun.rest spelled begun.own begun.goes))

-- and before a line is begun
pub unread_at : (law : StopIsSpelled) (root : ℕ) (before : List Entry) (lines : List Line) (at : ℕ) → at < length lines → Spelled root before (take at lines) → SpelledSoFar root before lines
unread_at law root before lines at inside spelled =
    let line = some_line lines at inside in
    stopped_at law root before before lines at line.0 line.1 spelled (record {
      entries = [];
      rest = begun root line.0.command;
      appended = sym (append-nil before);
      own = All-nil (Owned line.0);
      goes = λ more rest. rest;
    })
