-- The names of opcodes and faults, as scripts print them.
use Rattle.std.specs.Prelude.{ℕ, List, codes}
use Rattle.icp_wire.specs.declared.message.IcpOp.{IcpOp}
use Rattle.icp_wire.specs.declared.message.IcpOp.TheVariants.{Query, Hit, Miss, Error, MissNoFetch, Denied, HitObj}
use Rattle.icp_wire.specs.declared.fault.IcpFault.{IcpFault}
use Rattle.icp_wire.specs.declared.fault.IcpFault.TheVariants.{Short, TooLong, BadVersion, BadLength, BadOpcode, NoZero, Trailing, BadObject, NoMemory}

-- the name of an opcode
abbrev pub icp_op_name : IcpOp → List ℕ
icp_op_name Query = codes "Query"
icp_op_name Hit = codes "Hit"
icp_op_name Miss = codes "Miss"
icp_op_name Error = codes "Error"
icp_op_name MissNoFetch = codes "MissNoFetch"
icp_op_name Denied = codes "Denied"
icp_op_name HitObj = codes "HitObj"

-- the name of a fault
abbrev pub icp_fault_name : IcpFault → List ℕ
icp_fault_name Short = codes "Short"
icp_fault_name TooLong = codes "TooLong"
icp_fault_name BadVersion = codes "BadVersion"
icp_fault_name BadLength = codes "BadLength"
icp_fault_name BadOpcode = codes "BadOpcode"
icp_fault_name NoZero = codes "NoZero"
icp_fault_name Trailing = codes "Trailing"
icp_fault_name BadObject = codes "BadObject"
icp_fault_name NoMemory = codes "NoMemory"
