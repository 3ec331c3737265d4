-- Errors of the database as faults of the store.
use Rattle.sqlite.specs.declared.error.ErrorCode.TheVariants as code
use Rattle.sqlite.specs.declared.error.Error.{Error}
use Rattle.sqlite.specs.declared.error.Error.TheVariants.{SqliteFailure}
use Rattle.floor_rules.specs.declared.fault.FloorFault.{FloorFault}
use Rattle.floor_rules.specs.declared.fault.FloorFault.TheVariants.{StoreFault, NoMemory}

-- `OutOfMemory` is `NoMemory`; any other error is `StoreFault`
abbrev pub told_as : Error → FloorFault
told_as (SqliteFailure code.OutOfMemory) = NoMemory
told_as _ = StoreFault
