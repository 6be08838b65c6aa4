use Rattle.lock_server.proofs.Common.{◌++◌, ◌∙◌, flock_words, listed, lock_words, wait_words}
use Rattle.lock_server.proofs.ReaderLemmas.{fails}
use Rattle.lock_server.proofs.ExportLaws.{three}
use Rattle.lock_server.proofs.import.reader.Reader.file.Goals as goal

pub returns-in_err-number : goal.returns-in_err-number
returns-in_err-number c y rest may is =
    fails _ c.from_residual.result _ _ c.from_residual.ensures.1
    (c.in_err-number.ensures y.number ((listed lock_words y.locks ++ (listed flock_words y.flocks ++ listed wait_words y.waits)) ++ rest) tt is)

pub returns-in_err-locks : goal.returns-in_err-locks
returns-in_err-locks c y rest may is =
    let number = c.in_ok-number.ensures y.number ((listed lock_words y.locks ++ (listed flock_words y.flocks ++ listed wait_words y.waits)) ++ rest) tt is in
    fails _ c.from_residual-in_err-locks.result _ _ c.from_residual-in_err-locks.ensures.1
    (c.in_err-locks.ensures.again y.locks (listed flock_words y.flocks ++ (listed wait_words y.waits ++ rest)) may.locks
    (number.1 ∙ three (listed lock_words y.locks) (listed flock_words y.flocks) (listed wait_words y.waits) rest))

pub returns-in_err-flocks : goal.returns-in_err-flocks
returns-in_err-flocks c y rest may is =
    let number = c.in_ok-number.ensures y.number ((listed lock_words y.locks ++ (listed flock_words y.flocks ++ listed wait_words y.waits)) ++ rest) tt is in
    let locks = c.in_ok-locks.ensures.again y.locks (listed flock_words y.flocks ++ (listed wait_words y.waits ++ rest)) may.locks
    (number.1 ∙ three (listed lock_words y.locks) (listed flock_words y.flocks) (listed wait_words y.waits) rest) in
    fails _ c.from_residual-in_err-flocks.result _ _ c.from_residual-in_err-flocks.ensures.1
    (c.in_err-flocks.ensures y.flocks (listed wait_words y.waits ++ rest) tt locks.1)

pub returns-in_err-waits : goal.returns-in_err-waits
returns-in_err-waits c y rest may is =
    let number = c.in_ok-number.ensures y.number ((listed lock_words y.locks ++ (listed flock_words y.flocks ++ listed wait_words y.waits)) ++ rest) tt is in
    let locks = c.in_ok-locks.ensures.again y.locks (listed flock_words y.flocks ++ (listed wait_words y.waits ++ rest)) may.locks
    (number.1 ∙ three (listed lock_words y.locks) (listed flock_words y.flocks) (listed wait_words y.waits) rest) in
    let flocks = c.in_ok-flocks.ensures y.flocks (listed wait_words y.waits ++ rest) tt locks.1 in
    fails _ c.from_residual-in_err-waits.result _ _ c.from_residual-in_err-waits.ensures.1 (c.in_err-waits.ensures.again y.waits rest may.waits flocks.1)

pub returns : goal.returns
returns c y rest may is =
    let number = c.in_ok-number.ensures y.number ((listed lock_words y.locks ++ (listed flock_words y.flocks ++ listed wait_words y.waits)) ++ rest) tt is in
    let locks = c.in_ok-locks.ensures.again y.locks (listed flock_words y.flocks ++ (listed wait_words y.waits ++ rest)) may.locks
    (number.1 ∙ three (listed lock_words y.locks) (listed flock_words y.flocks) (listed wait_words y.waits) rest) in
    let flocks = c.in_ok-flocks.ensures y.flocks (listed wait_words y.waits ++ rest) tt locks.1 in
    let waits = c.in_ok-waits.ensures.again y.waits rest may.waits flocks.1 in
    (λ i. record { number = number.0 i; locks = locks.0 i; flocks = flocks.0 i; waits = waits.0 i }, waits.1)
