-- The entries of what was asked.
use Rattle.std.proofs.Common.{◌≡◌, ◌∙◌, inl, inr, ℕ, List, [], ◌∷◌, ◌++◌, false, refl, append_assoc}
use Rattle.std.proofs.lemmas.List.Elements.{All-nil, All-cons}
use Rattle.bfs_tree.specs.declared.call.Call.{Call}
use Rattle.bfs_tree.specs.declared.call.Call.TheVariants as calls
use Rattle.bfs_tree.specs.declared.reply.Reply.{Reply}
use Rattle.bfs_tree.specs.declared.reply.Reply.TheVariants as replies
use Rattle.bfs_tree.specs.declared.reply.Entry.{Entry}
use Rattle.bfs_tree.specs.Steps as steps
use Rattle.bfs_text.specs.Printed as printed
use Rattle.bfs_command.specs.Spelled.{lets_go}
use Rattle.bfs_command.specs.Left.{is_piece}
use Rattle.bfs_volume.specs.Pieces.{HasPiece, HasUntaken, HasReleased}
use Rattle.bfs_run.specs.Scripts.{HasMade}

-- an entry with this session and tag
abbrev Owned : ℕ → ℕ → Entry → Type 0
Owned session tag e = (e.session ≡ session) × (e.tag ≡ tag)

-- what isn't done isn't Done
undone : (reply : Reply) → steps.is_done reply ≡ false → printed.is_done reply ≡ false
undone (replies.Made id) e = refl
undone replies.Done e = e
undone (replies.Found id kind) e = refl
undone (replies.Names names) e = refl
undone (replies.Info info) e = refl
undone (replies.Target bytes) e = refl
undone (replies.Attr kind bytes) e = refl
undone (replies.Attrs rows) e = refl
undone (replies.Indices rows) e = refl
undone (replies.Rows rows) e = refl
undone (replies.Synced upto) e = refl
undone replies.NotFound e = refl
undone replies.NotDir e = refl
undone replies.NotFile e = refl
undone replies.NotLink e = refl
undone replies.NameBad e = refl
undone replies.TooBig e = refl
undone replies.Exists e = refl
undone replies.NotEmpty e = refl
undone replies.Inside e = refl
undone replies.NoAttr e = refl
undone replies.FloatIndex e = refl
undone replies.IndexCount e = refl
undone replies.NoIndex e = refl
undone replies.BuiltIn e = refl
undone replies.KeyKind e = refl
undone (replies.PastEnd size) e = refl
undone (replies.Held holder) e = refl
undone (replies.NoSpace free needed) e = refl
undone (replies.NoLogRoom blocks space) e = refl
undone (replies.DiskFault from upto stops) e = refl
undone (replies.Stopped durable faults) e = refl
undone (replies.Damaged block) e = refl

module _ (before now : List Entry) (session tag : ℕ) (hold : Call) (id : ℕ) (given wanted : List ℕ → Type 0) (fits : (bytes : List ℕ) → given bytes → wanted bytes) where
  abbrev Piece : Type 0
  Piece = HasMade before now session tag (is_piece hold (lets_go id wanted))

  untaken_made : HasUntaken before now session tag hold → Piece
  untaken_made u =
      let e : Entry = record { session = session; tag = tag; stamp = u.entry.stamp; call = hold; reply = u.reply } in
      record {
        entries = e ∷ [];
        last = e;
        appended = u.entry.appended;
        own = All-cons (Owned session tag) e [] (refl, refl) (All-nil (Owned session tag));
        ends = record { front = before; ends = u.entry.appended };
        are = inl (undone u.reply u.refused, (e, refl, refl, refl));
      }

  released_made : HasReleased before now session tag hold id given → Piece
  released_made r =
      let e : Entry = record { session = session; tag = tag; stamp = r.stamp; call = hold; reply = replies.Done } in
      let l : Entry = record { session = session; tag = tag; stamp = r.later; call = calls.Release id r.bytes r.whole r.from r.upto; reply = replies.Done } in
      record {
        entries = e ∷ l ∷ [];
        last = l;
        appended = r.appended ∙ append_assoc before (e ∷ []) (l ∷ []);
        own = All-cons (Owned session tag) e (l ∷ []) (refl, refl) (All-cons (Owned session tag) l [] (refl, refl) (All-nil (Owned session tag)));
        ends = record { front = before ++ e ∷ []; ends = r.appended };
        are = inr (refl, e, (l ∷ []), refl, refl, refl, (l, r.bytes, r.whole, r.from, r.upto, refl, refl, λ whole. fits r.bytes (r.all whole)));
      }

  pub piece_made : HasPiece before now session tag hold id given → Piece
  piece_made (inl u) = untaken_made u
  piece_made (inr r) = released_made r
