mod WholeCodes
