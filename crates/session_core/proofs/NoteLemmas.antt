-- What `==` of notes says.
use Rattle.session_core.proofs.Common.{arith, ◌≡◌, refl, subst, Bool, true, false, common_steps, Note, Answer, Waits, Reply}
use Rattle.std.proofs.Common.{◌&&◌}
use Rattle.std.specs.Bool.{Decides}
use Rattle.std.proofs.lemmas.Bool.{eqb-true, eq-eqb}
use Rattle.std.proofs.lemmas.Bool.Decides.{Decides-int_eq}
use Rattle.lock_manager.specs.contracts.request.NotePartialEq.TheImpl.{eq-value as note_eq}
use Rattle.lock_manager.specs.contracts.request.ReplyPartialEq.TheImpl.{eq-value as reply_eq}

-- both tests are true
both : (x y : Bool) → (x && y) ≡ true → (x ≡ true) × (y ≡ true)
both true y h = (refl, h)
both false y h = cc

reply_same : (r s : Reply) → reply_eq.it r s ≡ true → r ≡ s
reply_same r s h = grind (arith, common_steps, eqb-true, both, Decides-int_eq)

reply_itself : (r : Reply) → reply_eq.it r r ≡ true
reply_itself r = grind (arith, common_steps, eq-eqb, Decides-int_eq)

note_same : (a b : Note) → note_eq.it a b ≡ true → a ≡ b
note_same a b h = grind (arith, common_steps, both, eqb-true, reply_same)

note_itself : (a : Note) → note_eq.it a a ≡ true
note_itself (Answer p n r) = rw (eq-eqb p p refl, eq-eqb n n refl, reply_itself r) refl
note_itself (Waits p n) = rw (eq-eqb p p refl, eq-eqb n n refl) refl

pub notes_decide : (a b : Note) → Decides (note_eq.it a b) (a ≡ b)
notes_decide a b = (note_same a b, λ same. subst (λ note. note_eq.it a note ≡ true) same (note_itself a))
