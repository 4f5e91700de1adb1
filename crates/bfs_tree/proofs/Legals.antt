-- Legal histories grow at their end.
use Rattle.std.proofs.Common.{List, [], ◌∷◌, ◌++◌, sym, subst, append_assoc, append-nil}
use Rattle.bfs_tree.specs.declared.reply.Entry.{Entry}
use Rattle.bfs_tree.specs.Histories.{Mounted, Follows, LegalFrom}

pub legal-push : (t0 : Mounted) (before es : List Entry) (e : Entry) → LegalFrom t0 before es → Follows t0 (before ++ es) e → LegalFrom t0 before (es ++ e ∷ [])
legal-push t0 before [] e legal follows = (subst (λ h. Follows t0 h e) (append-nil before) follows, tt)
legal-push t0 before (x ∷ es) e legal follows = (legal.0, legal-push t0 (before ++ x ∷ []) es e legal.1 (subst (λ h. Follows t0 h e) (sym (append_assoc before (x ∷ []) es)) follows))

pub legal-prefix : (t0 : Mounted) (before es more : List Entry) → LegalFrom t0 before (es ++ more) → LegalFrom t0 before es
legal-prefix t0 before [] more legal = tt
legal-prefix t0 before (x ∷ es) more legal = (legal.0, legal-prefix t0 (before ++ x ∷ []) es more legal.1)
