use Rattle.history_text.proofs.Common.{refl, texts, Done, Busy, Interrupted, Deadlock, Free, Error}
use Rattle.history_text.proofs.AnswerLemmas.{alone_given, one_of_seven}
use Rattle.history_text.proofs.answers.read_named.Goals as goal

pub returns-in-ok : goal.returns-in-ok
returns-in-ok c = λ action has.
    rw c.in-ok.is
    (alone_given c.args.id Done (texts c.args.told.now) c.read_alone.result refl refl tt refl c.read_alone.ensures)

pub returns-in-busy : goal.returns-in-busy
returns-in-busy c = λ action has.
    rw c.in-busy.is
    (alone_given c.args.id Busy (texts c.args.told.now) c.read_alone-in-busy.result refl refl tt refl c.read_alone-in-busy.ensures)

pub returns-in-EINTR : goal.returns-in-EINTR
returns-in-EINTR c = λ action has.
    rw c.in-EINTR.is
    (alone_given c.args.id Interrupted (texts c.args.told.now) c.read_alone-in-EINTR.result refl refl tt refl c.read_alone-in-EINTR.ensures)

pub returns-in-EDEADLK : goal.returns-in-EDEADLK
returns-in-EDEADLK c = λ action has.
    rw c.in-EDEADLK.is
    (alone_given c.args.id Deadlock (texts c.args.told.now) c.read_alone-in-EDEADLK.result refl refl tt refl c.read_alone-in-EDEADLK.ensures)

pub returns-in-free : goal.returns-in-free
returns-in-free c = λ action has.
    rw c.in-free.is
    (alone_given c.args.id Free (texts c.args.told.now) c.read_alone-in-free.result refl refl tt refl c.read_alone-in-free.ensures)

pub returns-in-error : goal.returns-in-error
returns-in-error c = λ action has.
    rw c.in-error.is
    (alone_given c.args.id Error (texts c.args.told.now) c.read_alone-in-error.result refl refl tt refl c.read_alone-in-error.ensures)

pub returns-in_default : goal.returns-in_default
returns-in_default c = λ action has.
    let not = c.in_default in
    absurd (one_of_seven action c.args.name.now has not.not-ok not.not-busy not.not-EINTR not.not-EDEADLK not.not-free not.not-held not.not-error)
