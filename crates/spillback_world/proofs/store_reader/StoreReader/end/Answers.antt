use Rattle.std.proofs.Common.{arith}
use Rattle.spillback_world.proofs.StoreReaderLaws.{listed-storages}
use Rattle.spillback_world.proofs.store_reader.StoreReader.end.Goals as goal

pub of_storages-requires : goal.of_storages-requires
of_storages-requires c = listed-storages _ _ c.loop-storage.storage-index (omega arith) c.loop-storage.invariant c.requires
