use Rattle.std.proofs.Common.{◌≡◌, take}
use Rattle.spillback_world.specs.StoreReaders.{storages_of}
use Rattle.spillback_world.proofs.store_reader.StoreReader.end.Given as goal

-- the storages so far are listed
abbrev pub invariant-loop-storage : goal.invariant-loop-storage
invariant-loop-storage l = l.storages.items ≡ storages_of (take l.storage-index l.self.storages.items)
