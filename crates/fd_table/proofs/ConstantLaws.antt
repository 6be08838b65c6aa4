-- The constants are the numbers that the definitions write, by computation.
use Rattle.fd_table.proofs.Common.{◌≡◌, refl, FILES}
use Rattle.fd_table.specs.declared.TheConstants.{DESCRIPTIONS}
use Rattle.fd_table.specs.Descriptors.{description_limit}

pub most_descriptions : DESCRIPTIONS ≡ description_limit
most_descriptions = refl

pub number_of_files : FILES ≡ 64
number_of_files = refl
