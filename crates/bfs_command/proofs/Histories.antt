-- A history that is spelled, with the entries of a line behind it.
use Rattle.std.proofs.Common.{◌≡◌, ◌<◌, inr, ℕ, zero, suc, pos, List, [], ◌∷◌, ◌++◌, length, get_or, Bool, true, false, ◌==◌, cond, refl, ap, sym, ◌∙◌, subst, append-nil, append_assoc, arith}
use Rattle.std.specs.List.{All, filter}
use Rattle.std.proofs.lemmas.List.Elements.{All-append, filter-append}
use Rattle.bfs_tree.specs.declared.call.Call.{Call}
use Rattle.bfs_tree.specs.declared.call.Call.TheVariants as calls
use Rattle.bfs_tree.specs.declared.reply.Reply.TheVariants as replies
use Rattle.bfs_tree.specs.declared.reply.Entry.{Entry}
use Rattle.bfs_command.specs.declared.due.Due.{Due}
use Rattle.bfs_command.specs.declared.due.Due.TheVariants as dues
use Rattle.bfs_command.specs.declared.line.Line.{Line}
use Rattle.bfs_command.specs.Spelled.{Said, AreOf, AreOfLines, Spelled, SpelledSoFar, spelled_by, finds, entries_of, due_at, first_parts, second_parts}
use Rattle.bfs_command.specs.Left.{Rest, left, unless}

-- of all: none, one more, the first, and those behind it
all_none : {X : Type 0} (P : X → Type 0) → All P []
all_none P = λ k d lt. absurd (omega (arith, lt))

all_cons : {X : Type 0} (P : X → Type 0) (x : X) (xs : List X) → P x → All P xs → All P (x ∷ xs)
all_cons P x xs first rest = each
  where
    each : (k : ℕ) (d : _) → k < length (x ∷ xs) → P (get_or (x ∷ xs) k d)
    each zero d lt = first
    each (suc k) d lt = rest k d (omega (arith, lt))

all_head : {X : Type 0} (P : X → Type 0) (x : X) (xs : List X) → All P (x ∷ xs) → P x
all_head P x xs all = all 0 x (omega arith)

all_tail : {X : Type 0} (P : X → Type 0) (x : X) (xs : List X) → All P (x ∷ xs) → All P xs
all_tail P x xs all = λ k d lt. all (suc k) d (omega (arith, lt))

abbrev OfLine : Line → Entry → Type 0
OfLine line e = (e.session ≡ line.session) × (e.tag ≡ line.number)

-- the entries of a line are all of its session
all_kept : (s : ℕ) (line : Line) (es : List Entry) → AreOf line es → (line.session == s) ≡ true → filter (λ (e : Entry). e.session == s) es ≡ es
all_kept s line [] of is = refl
all_kept s line (e ∷ es) of is = ap (λ (t : Bool). cond t (e ∷ filter (λ (e : Entry). e.session == s) es) (filter (λ (e : Entry). e.session == s) es)) (ap (λ (n : ℕ). n == s) (all_head (OfLine line) e es of).0 ∙ is) ∙ ap (λ (l : List Entry). e ∷ l) (all_kept s line es (all_tail (OfLine line) e es of) is)

-- and none of another
none_kept : (s : ℕ) (n : ℕ) (es : List Entry) → All (λ e. e.session ≡ n) es → (n == s) ≡ false → filter (λ (e : Entry). e.session == s) es ≡ []
none_kept s n [] of is = refl
none_kept s n (e ∷ es) of is = ap (λ (t : Bool). cond t (e ∷ filter (λ (e : Entry). e.session == s) es) (filter (λ (e : Entry). e.session == s) es)) (ap (λ (m : ℕ). m == s) (all_head (λ (e : Entry). e.session ≡ n) e es of) ∙ is) ∙ none_kept s n es (all_tail (λ (e : Entry). e.session ≡ n) e es of) is

sessions_of : (line : Line) (es : List Entry) → AreOf line es → All (λ e. e.session ≡ line.session) es
sessions_of line es of = λ k d lt. (of k d lt).0

tags_of : (line : Line) (es : List Entry) → AreOf line es → All (λ e. e.tag ≡ line.number) es
tags_of line es of = λ k d lt. (of k d lt).1

-- one line more
lines_more : (root : ℕ) (lines : List Line) (hs : List Entry) (line : Line) (es : List Entry) → AreOfLines root lines hs → All (λ e. e.tag ≡ line.number) es → spelled_by root line.command es → AreOfLines root (lines ++ line ∷ []) (hs ++ es)
lines_more root [] hs line es of tags says = (es, [], ap (λ (h : List Entry). h ++ es) of ∙ sym (append-nil es), tags, says, refl)
lines_more root (l ∷ ls) hs line es of tags says =
    (of.0, of.1 ++ es, ap (λ (h : List Entry). h ++ es) of.2 ∙ append_assoc of.0 of.1 es, of.3, of.4, lines_more root ls of.1 line es of.5 tags says)

module _ (root : ℕ) (history es : List Entry) (lines : List Line) (line : Line) (spelled : Spelled root history lines) (of : AreOf line es) where
  same_history : (s : ℕ) → (line.session == s) ≡ true → filter (λ (e : Entry). e.session == s) (history ++ es) ≡ filter (λ (e : Entry). e.session == s) history ++ es
  same_history s is = filter-append (λ (e : Entry). e.session == s) history es ∙ ap (λ (l : List Entry). filter (λ (e : Entry). e.session == s) history ++ l) (all_kept s line es of is)

  other_history : (s : ℕ) → (line.session == s) ≡ false → filter (λ (e : Entry). e.session == s) (history ++ es) ≡ filter (λ (e : Entry). e.session == s) history
  other_history s is = filter-append (λ (e : Entry). e.session == s) history es ∙ ap (λ (l : List Entry). filter (λ (e : Entry). e.session == s) history ++ l) (none_kept s line.session es (sessions_of line es of) is) ∙ append-nil (filter (λ (e : Entry). e.session == s) history)

  same_lines : (s : ℕ) (later : List Line) → (line.session == s) ≡ true → filter (λ (l : Line). l.session == s) (lines ++ line ∷ later) ≡ filter (λ (l : Line). l.session == s) lines ++ line ∷ filter (λ (l : Line). l.session == s) later
  same_lines s later is =
      filter-append (λ (l : Line). l.session == s) lines (line ∷ later) ∙ ap (λ (t : Bool). filter (λ (l : Line). l.session == s) lines ++ cond t (line ∷ filter (λ (l : Line). l.session == s) later) (filter (λ (l : Line). l.session == s) later)) is

  other_lines : (s : ℕ) (later : List Line) → (line.session == s) ≡ false → filter (λ (l : Line). l.session == s) (lines ++ line ∷ later) ≡ filter (λ (l : Line). l.session == s) lines ++ filter (λ (l : Line). l.session == s) later
  other_lines s later is =
      filter-append (λ (l : Line). l.session == s) lines (line ∷ later) ∙ ap (λ (t : Bool). filter (λ (l : Line). l.session == s) lines ++ cond t (line ∷ filter (λ (l : Line). l.session == s) later) (filter (λ (l : Line). l.session == s) later)) is

  pub line_spelled : spelled_by root line.command es → Spelled root (history ++ es) (lines ++ line ∷ [])
  line_spelled says = λ s from. by_test s from (line.session == s) refl
    where
      by_test : (s : ℕ) → 0 < s → (t : Bool) → (line.session == s) ≡ t → AreOfLines root (filter (λ (l : Line). l.session == s) (lines ++ line ∷ [])) (filter (λ (e : Entry). e.session == s) (history ++ es))
      by_test s from true is =
          subst (λ (ls : List Line). AreOfLines root ls (filter (λ (e : Entry). e.session == s) (history ++ es))) (sym (same_lines s [] is))
          (subst (λ (hs : List Entry). AreOfLines root (filter (λ (l : Line). l.session == s) lines ++ line ∷ []) hs) (sym (same_history s is))
          (lines_more root (filter (λ (l : Line). l.session == s) lines) (filter (λ (e : Entry). e.session == s) history) line es (spelled s from) (tags_of line es of) says))
      by_test s from false is =
          subst (λ (ls : List Line). AreOfLines root ls (filter (λ (e : Entry). e.session == s) (history ++ es))) (sym (other_lines s [] is ∙ append-nil (filter (λ (l : Line). l.session == s) lines)))
          (subst (λ (hs : List Entry). AreOfLines root (filter (λ (l : Line). l.session == s) lines) hs) (sym (other_history s is)) (spelled s from))

-- entries of session 0
pub own_spelled : (root : ℕ) (history es : List Entry) (lines : List Line) → Spelled root history lines → All (λ e. e.session ≡ 0) es → Spelled root (history ++ es) lines
own_spelled root history es lines spelled own = λ s from.
    let none : filter (λ (e : Entry). e.session == s) (history ++ es) ≡ filter (λ (e : Entry). e.session == s) history =
    filter-append (λ (e : Entry). e.session == s) history es ∙ ap (λ (l : List Entry). filter (λ (e : Entry). e.session == s) history ++ l) (none_kept s 0 es own (zero_is_none s from)) ∙ append-nil (filter (λ (e : Entry). e.session == s) history) in
    subst (λ (hs : List Entry). AreOfLines root (filter (λ (l : Line). l.session == s) lines) hs) (sym none) (spelled s from)
  where
    zero_is_none : (s : ℕ) → 0 < s → (0 == s) ≡ false
    zero_is_none s from = grind (arith, from)

-- ---- what is left has entries

abbrev refused : Line → Call → Entry
refused line call = record { session = line.session; tag = line.number; stamp = pos 0; call = call; reply = replies.NotFound }

one_of : (line : Line) (call : Call) → AreOf line (refused line call ∷ [])
one_of line call = all_cons (OfLine line) (refused line call) [] (refl, refl) (all_none (OfLine line))

abbrev Some_of : Line → Said → Type 0
Some_of line said = (es : List Entry) × AreOf line es × said es

finds_some : (line : Line) (dir : ℕ) (names : List (List ℕ)) (more : ℕ → Said) → ((id : ℕ) → Some_of line (more id)) → Some_of line (finds dir names more)
finds_some line dir [] more some = some dir
finds_some line dir (name ∷ names) more some = (refused line (calls.Lookup dir name) ∷ [], one_of line (calls.Lookup dir name), (refl, inr (refl, refl)))

entries_some : (line : Line) (d : Due) → Some_of line (entries_of d)
entries_some line (dues.Call call) = (refused line call ∷ [], one_of line call, (refl, inr (refl, refl)))
entries_some line (dues.Write id at bytes) = (refused line (calls.Hold id at (length bytes) true) ∷ [], one_of line (calls.Hold id at (length bytes) true), (refl, inr (refl, refl)))
entries_some line (dues.Read id at count) = (refused line (calls.Hold id at count false) ∷ [], one_of line (calls.Hold id at count false), (refl, inr (refl, refl)))
entries_some line dues.Sync = (refused line calls.Sync ∷ [], one_of line calls.Sync, (refl, inr (refl, refl)))
entries_some line dues.Nothing = ([], all_none (OfLine line), refl)

left_some : (line : Line) (r : Rest) → Some_of line (left r)
left_some line r = by_end r.ended
  where
    by_end : (t : Bool) → Some_of line (unless t (finds r.dir r.names (λ id. finds r.to_dir r.to_names (λ to_dir. entries_of (due_at r.command id to_dir)))))
    by_end true = ([], all_none (OfLine line), refl)
    by_end false = finds_some line r.dir r.names (λ id. finds r.to_dir r.to_names (λ to_dir. entries_of (due_at r.command id to_dir))) (λ id. finds_some line r.to_dir r.to_names (λ to_dir. entries_of (due_at r.command id to_dir)) (λ to_dir. entries_some line (due_at r.command id to_dir)))

line_some : (root : ℕ) (line : Line) → Some_of line (spelled_by root line.command)
line_some root line = finds_some line root (first_parts line.command) (λ id. finds root (second_parts line.command) (λ to_dir. entries_of (due_at line.command id to_dir))) (λ id. finds_some line root (second_parts line.command) (λ to_dir. entries_of (due_at line.command id to_dir)) (λ to_dir. entries_some line (due_at line.command id to_dir)))

lines_some : (root : ℕ) (lines : List Line) → (es : List Entry) × AreOfLines root lines es
lines_some root [] = ([], refl)
lines_some root (line ∷ lines) =
    let first = line_some root line in
    let rest = lines_some root lines in
    (first.0 ++ rest.0, (first.0, rest.0, refl, tags_of line first.0 first.1, first.2, rest.1))

-- ---- a line that stops

-- lines that are still to come
lines_later : (root : ℕ) (lines later : List Line) (hs : List Entry) → AreOfLines root lines hs → (m : List Entry) × AreOfLines root (lines ++ later) (hs ++ m)
lines_later root [] later hs of = let some = lines_some root later in (some.0, subst (λ (h : List Entry). AreOfLines root later (h ++ some.0)) (sym of) some.1)
lines_later root (l ∷ ls) later hs of =
    let more = lines_later root ls later of.1 of.5 in
    (more.0, (of.0, of.1 ++ more.0, ap (λ (h : List Entry). h ++ more.0) of.2 ∙ append_assoc of.0 of.1 more.0, of.3, of.4, more.1))

-- a line of which some entries are there, and lines that are still to come
lines_so_far : (root : ℕ) (lines later : List Line) (line : Line) (hs es more : List Entry) → AreOfLines root lines hs → All (λ e. e.tag ≡ line.number) (es ++ more) → spelled_by root line.command (es ++ more) → (m : List Entry) × AreOfLines root (lines ++ line ∷ later) ((hs ++ es) ++ m)
lines_so_far root [] later line hs es more of tags says =
    let some = lines_some root later in
    (more ++ some.0, (es ++ more, some.0, ap (λ (h : List Entry). (h ++ es) ++ (more ++ some.0)) of ∙ sym (append_assoc es more some.0), tags, says, some.1))
lines_so_far root (l ∷ ls) later line hs es more of tags says =
    let on = lines_so_far root ls later line of.1 es more of.5 tags says in
    let joined : (hs ++ es) ++ on.0 ≡ of.0 ++ ((of.1 ++ es) ++ on.0) = ap (λ (h : List Entry). (h ++ es) ++ on.0) of.2 ∙ ap (λ (h : List Entry). h ++ on.0) (append_assoc of.0 of.1 es) ∙ append_assoc of.0 (of.1 ++ es) on.0 in
    (on.0, (of.0, (of.1 ++ es) ++ on.0, joined, of.3, of.4, on.1))

all_both : (line : Line) (xs ys : List Entry) → AreOf line xs → AreOf line ys → AreOf line (xs ++ ys)
all_both line xs ys of more = All-append (OfLine line) xs ys of more

pub stop_spelled : (root : ℕ) (history es : List Entry) (lines later : List Line) (line : Line) (rest : Rest) → Spelled root history lines → AreOf line es → ((more : List Entry) → left rest more → spelled_by root line.command (es ++ more)) → SpelledSoFar root (history ++ es) (lines ++ line ∷ later)
stop_spelled root history es lines later line rest spelled of on = λ s from. by_test s from (line.session == s) refl
  where
    by_test : (s : ℕ) → 0 < s → (t : Bool) → (line.session == s) ≡ t → (m : List Entry) × AreOfLines root (filter (λ (l : Line). l.session == s) (lines ++ line ∷ later)) (filter (λ (e : Entry). e.session == s) (history ++ es) ++ m)
    by_test s from true is =
        let some = left_some line rest in
        let so_far = lines_so_far root (filter (λ (l : Line). l.session == s) lines) (filter (λ (l : Line). l.session == s) later) line (filter (λ (e : Entry). e.session == s) history) es some.0 (spelled s from) (tags_of line (es ++ some.0) (all_both line es some.0 of some.1)) (on some.0 some.2) in (
          so_far.0,
          subst (λ (ls : List Line). AreOfLines root ls (filter (λ (e : Entry). e.session == s) (history ++ es) ++ so_far.0)) (sym (same_lines root history es lines line spelled of s later is))
              (subst (λ (hs : List Entry). AreOfLines root (filter (λ (l : Line). l.session == s) lines ++ line ∷ filter (λ (l : Line). l.session == s) later) (hs ++ so_far.0)) (sym (same_history root history es lines line spelled of s is)) so_far.1),
        )
    by_test s from false is =
        let on = lines_later root (filter (λ (l : Line). l.session == s) lines) (filter (λ (l : Line). l.session == s) later) (filter (λ (e : Entry). e.session == s) history) (spelled s from) in (
          on.0,
          subst (λ (ls : List Line). AreOfLines root ls (filter (λ (e : Entry). e.session == s) (history ++ es) ++ on.0)) (sym (other_lines root history es lines line spelled of s later is))
              (subst (λ (hs : List Entry). AreOfLines root (filter (λ (l : Line). l.session == s) lines ++ filter (λ (l : Line). l.session == s) later) (hs ++ on.0)) (sym (other_history root history es lines line spelled of s is)) on.1),
        )
